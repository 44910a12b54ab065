-- Where the manual says what an instruction does: by its condition and its operation; and what the
-- named differences leave.
use Prim.Native.Nat.{ℕ}
use mathlib.Core.Path.{◌≡◌, refl, sym, ◌∙◌, subst}
use mathlib.Core.Bool.{Bool, true, false, cond, ◌&&◌, true≢false}
use mathlib.Core.Option.{none, some}
use lib.Dec.{T}
use Rattle.armv4t.specs.declared.Cond.{Cond}
use Rattle.armv4t.specs.declared.Cond.TheVariants.{Eq, Ne, Cs, Cc, Mi, Pl, Vs, Vc, Hi, Ls, Ge, Lt}
use Rattle.armv4t.specs.declared.Cond.TheVariants.{Gt, Le, Al, Nv}
use Rattle.armv4t.specs.declared.Op.{Op}
use Rattle.armv4t.specs.declared.Instr.{Instr}
use Rattle.armv4t.specs.Cond.{is_al}
use Rattle.armv4t_manual.specs.Machine.{Machine}
use Rattle.armv4t_manual.specs.Conditions.{passed}
use Rattle.armv4t_manual.specs.Unsaid.{no_instruction, unpredictable, is_nv}
use Rattle.armv4t_manual.specs.Execute.{onward, operation, execute}
use Rattle.lower_forms.specs.Differs.{differs_in}
use Rattle.lower_units.specs.Records.{is_named_difference}
use Rattle.lower_forms.proofs.Body.{some_same, not_none, or_l, or_r}

-- the condition passes and the operation is said, or the instruction only leads on
pub data Outcome (i : Instr) (m : Machine) (next : Machine × ℕ) : Type 0 where
  done : passed i.cond m ≡ true → unpredictable i.op ≡ false
      → operation i i.op m ≡ some next → Outcome i m next
  skipped : passed i.cond m ≡ false → onward i m ≡ next → Outcome i m next

module _ (i : Instr) (m : Machine) (next : Machine × ℕ) where
  by_tests : (no : Bool) → no_instruction i ≡ no → (pass : Bool) → passed i.cond m ≡ pass
      → (un : Bool) → unpredictable i.op ≡ un
      → cond no none (cond pass (cond un none (operation i i.op m)) (some (onward i m)))
      ≡ some next → (no_instruction i ≡ false) × Outcome i m next
  by_tests true n pass p un u e = absurd (not_none e)
  by_tests false n true p true u e = absurd (not_none e)
  by_tests false n true p false u e = (n, done p u e)
  by_tests false n false p un u e = (n, skipped p (some_same e))

  pub outcome : execute i m ≡ some next → (no_instruction i ≡ false) × Outcome i m next
  unfolding execute
  outcome e =
      by_tests (no_instruction i) refl (passed i.cond m) refl (unpredictable i.op) refl e

-- Al passes
pub al_passes : (c : Cond) → is_al c ≡ true → (m : Machine) → passed c m ≡ true
al_passes Al e m = refl
al_passes Eq e m = absurd (subst T (sym e) tt)
al_passes Ne e m = absurd (subst T (sym e) tt)
al_passes Cs e m = absurd (subst T (sym e) tt)
al_passes Cc e m = absurd (subst T (sym e) tt)
al_passes Mi e m = absurd (subst T (sym e) tt)
al_passes Pl e m = absurd (subst T (sym e) tt)
al_passes Vs e m = absurd (subst T (sym e) tt)
al_passes Vc e m = absurd (subst T (sym e) tt)
al_passes Hi e m = absurd (subst T (sym e) tt)
al_passes Ls e m = absurd (subst T (sym e) tt)
al_passes Ge e m = absurd (subst T (sym e) tt)
al_passes Lt e m = absurd (subst T (sym e) tt)
al_passes Gt e m = absurd (subst T (sym e) tt)
al_passes Le e m = absurd (subst T (sym e) tt)
al_passes Nv e m = absurd (subst T (sym e) tt)

-- so under Al the operation is said
pub always : (i : Instr) (m : Machine) (next : Machine × ℕ) → is_al i.cond ≡ true
    → execute i m ≡ some next
    → (op : Op) → i.op ≡ op → operation i op m ≡ some next
always i m next a e op q = go (outcome i m next e).1
  where
    go : Outcome i m next → operation i op m ≡ some next
    go (done p u o) = subst (λ (op : Op). operation i op m ≡ some next) q o
    go (skipped p o) = absurd (true≢false (sym (al_passes i.cond a m) ∙ p))

-- no named difference: the condition is not NV, and where it passes the operation does not differ
module _ (i : Instr) (m : Machine) (d : is_named_difference i m ≡ false) where
  pub not_nv : is_nv i.cond ≡ false
  not_nv = or_l (is_nv i.cond) (passed i.cond m && differs_in i i.op) d

  pub not_different : passed i.cond m ≡ true → differs_in i i.op ≡ false
  not_different p =
      subst (λ (b : Bool). (b && differs_in i i.op) ≡ false) p
      (or_r (is_nv i.cond) (passed i.cond m && differs_in i i.op) d)
