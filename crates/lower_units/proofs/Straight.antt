-- Straight-line instructions: their text means what the manual says, under their condition.
use Prim.Native.Nat.{ℕ}
use mathlib.Core.Path.{◌≡◌, refl, sym, ap, ◌∙◌, subst}
use mathlib.Core.Bool.{Bool, true, false, cond, true≢false}
use mathlib.Core.List.{List, []}
use mathlib.Core.Option.{Option, none, some}
use Rattle.armv4t.specs.Cond.{is_al}
use Rattle.armv4t.specs.declared.Instr.{Instr}
use Rattle.file_instrs.specs.declared.decode.TimedInstr.{TimedInstr}
use Rattle.c_tree.specs.Stmt.{Owner}
use Rattle.c_meaning.specs.State.{State}
use Rattle.lower_forms.specs.Forms.{Lines, Native, straight, straight_if, Form, native, shell}
use Rattle.lower_forms.specs.Operands.{cond_expr}
use Rattle.lower_forms.specs.InlineBody.{inline_body}
use Rattle.lower_forms.specs.Block.{flush_ticks, emit_lines, emit_straight}
use Rattle.lower_units.specs.Block.{native_text}
use Rattle.armv4t_manual.specs.Machine.{Machine, Sound}
use Rattle.armv4t_manual.specs.Conditions.{passed}
use Rattle.armv4t_manual.specs.Execute.{execute, key_after}
use Rattle.lower_forms.specs.Agree.{Agrees}
use Rattle.lower_forms.specs.Means.{OpMeans}
use Rattle.lower_units.specs.Text.{Continues}
use Rattle.lower_units.specs.Records.{is_named_difference}
use Rattle.lower_units.proofs.Outcome.{Outcome, done, skipped, outcome, al_passes, not_nv}
use Rattle.lower_units.proofs.Outcome.{not_different}
use Rattle.lower_units.proofs.Wrapped.{straight_text, straight_if_text}

-- a shell is not native, and a native form is that one
is_native_lem : Form → Type 0
is_native_lem (native r) = Unit {0}
is_native_lem (shell h t k) = ⊥

from_native : Native → Form → Native
from_native d (native r) = r
from_native d (shell h t k) = d

pub native_same : {r q : Native} → native r ≡ native q → r ≡ q
unfolding from_native
native_same {r = r} e = ap (from_native r) e

pub not_shell : {h : Bool} {t : Lines} {k : ℕ} {r : Native} → shell h t k ≡ native r → ⊥
unfolding is_native_lem
not_shell e = subst is_native_lem (sym e) tt

-- what is native is lowered to lines
pub lowered : (thumb touchesBus : Bool) (cycles : ℕ) (x : TimedInstr) (r : Native)
    → (emit_straight thumb touchesBus cycles x).0 ≡ native r
    → (ls : Lines) × (inline_body thumb x.instr ≡ some ls)
    × ((emit_lines thumb touchesBus cycles x (some ls)).0 ≡ native r)
lowered thumb touchesBus cycles x r q = go (inline_body thumb x.instr) refl q
  where
    go : (b : Option Lines) → inline_body thumb x.instr ≡ b
        → (emit_lines thumb touchesBus cycles x b).0 ≡ native r
        → (ls : Lines) × (inline_body thumb x.instr ≡ some ls)
        × ((emit_lines thumb touchesBus cycles x (some ls)).0 ≡ native r)
    go none l q = absurd (not_shell q)
    go (some ls) l q = (ls, l, q)

module _ (x : TimedInstr) (p : OpMeans x.instr x.instr.op) (ks : List ℕ) (a : ℕ) (o : Owner)
    {z : State} {m : Machine} (s : Sound m) (g : Agrees z m)
    (d : is_named_difference x.instr m ≡ false) (next : Machine × ℕ)
    (e : execute x.instr m ≡ some next) where
  abbrev i : Instr
  i = x.instr

  -- a text that leads on as the manual does
  Result : Native → Type 0
  Result r = Continues (native_text ks a o r) z next.0 × (next.1 ≡ key_after i)

  module _ (ls : Lines) (l : inline_body i.thumb i ≡ some ls) (n : ℕ) where
    -- under Al
    always_means : passed i.cond m ≡ true → Result (straight (flush_ticks n) ls)
    unfolding Result inline_body
    always_means pass = go (outcome i m next e).1
      where
        go : Outcome i m next → Result (straight (flush_ticks n) ls)
        go (done t u q) = let r = p ls l z m s g u (not_different i m d t) next q in
            (straight_text ks a o n ls r.0, r.1)
        go (skipped t q) = absurd (true≢false (sym pass ∙ t))

    -- under another condition
    under_means : Result (straight_if (flush_ticks n) (cond_expr i.cond) ls)
    unfolding Result inline_body
    under_means = go (outcome i m next e).1
      where
        text : Machine → Type 0
        text = Continues (native_text ks a o (straight_if (flush_ticks n) (cond_expr i.cond) ls)) z

        go : Outcome i m next → text next.0 × (next.1 ≡ key_after i)
        go (done t u q) = (
          subst (λ (b : Bool). text (cond b next.0 m)) t
              (straight_if_text s g i.cond (not_nv i m d) ks a o n ls
              (λ t v h. (p ls l v m s h u (not_different i m d t) next q).0)),
          (p ls l z m s g u (not_different i m d t) next q).1,
        )
        go (skipped t q) =
            subst (λ (n : Machine × ℕ). text n.0 × (n.1 ≡ key_after i)) q (
              subst (λ (b : Bool). text (cond b m m)) t
                  (straight_if_text s g i.cond (not_nv i m d) ks a o n ls
                  (λ y u h. absurd (true≢false (sym y ∙ t)))),
              refl,
            )

    by_cond : (b : Bool) → is_al i.cond ≡ b
        → Result
        (cond b (straight (flush_ticks n) ls) (straight_if (flush_ticks n) (cond_expr i.cond) ls))
    by_cond true c = always_means (al_passes i.cond c m)
    by_cond false c = under_means

  by_bus : (ls : Lines) → inline_body i.thumb i ≡ some ls → (cycles : ℕ) (b : Bool)
      → Result
      (cond (is_al i.cond) (straight (cond b (flush_ticks cycles) []) ls)
      (straight_if (cond b (flush_ticks cycles) []) (cond_expr i.cond) ls))
  by_bus ls l cycles true = by_cond ls l cycles (is_al i.cond) refl
  by_bus ls l cycles false = by_cond ls l 0 (is_al i.cond) refl

  -- a straight-line instruction that is native, where its operation means what it should
  pub straight_means : (touchesBus : Bool) (cycles : ℕ) (r : Native)
      → (emit_straight i.thumb touchesBus cycles x).0 ≡ native r
      → Continues (native_text ks a o r) z next.0 × (next.1 ≡ key_after i)
  unfolding Result
  straight_means touchesBus cycles r q = let w = lowered i.thumb touchesBus cycles x r q in
      subst Result (native_same w.2) (by_bus w.0 w.1 cycles touchesBus)
