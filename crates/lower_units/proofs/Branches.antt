-- Branches: their text goes where the manual goes.
use Prim.Native.Nat.{ℕ, ◌+◌, ◌*◌, ◌/◌, ◌%◌, ◌<◌}
use mathlib.Core.Path.{◌≡◌, refl, sym, ◌∙◌, subst}
use mathlib.Core.Bool.{Bool, true, false, cond, ◌&&◌, true≢false}
use mathlib.Core.List.{List, ◌++◌}
use mathlib.Core.Option.{some}
use native.Mathlib.Nat.{mod-lt}
use native.Mathlib.Omega.{arith}
use lib.Dec.{lit<}
use Rattle.armv4t.specs.declared.Op.{Op}
use Rattle.armv4t.specs.declared.Op.TheVariants.{Branch}
use Rattle.armv4t.specs.declared.Instr.{Instr}
use Rattle.armv4t.specs.Bit0.{clear_bit0}
use Rattle.armv4t.specs.Instr.{size_of}
use Rattle.armv4t.specs.Cond.{is_al}
use Rattle.file_blocks.specs.Address.{key_of}
use Rattle.c_tree.specs.Stmt.{Owner}
use Rattle.c_meaning.specs.State.{State}
use Rattle.lower_forms.specs.Forms.{Native, jump}
use Rattle.lower_forms.specs.Forms as F
use Rattle.lower_forms.specs.Operands.{cond_expr}
use Rattle.lower_forms.specs.InlineBody.{each_on_line}
use Rattle.lower_forms.specs.Block.{flush_ticks, branch_regs, emit_branch}
use Rattle.lower_units.specs.Block.{native_text}
use Rattle.armv4t_manual.specs.Machine.{Machine, set_reg, Sound}
use Rattle.armv4t.specs.InRange.{InRange}
use Rattle.armv4t_manual.specs.Conditions.{passed}
use Rattle.armv4t_manual.specs.Unsaid.{no_instruction_of, is_nv}
use Rattle.armv4t_manual.specs.Execute.{key, operation, execute, branch, key_after}
use Rattle.lower_forms.specs.Agree.{Agrees}
use Rattle.lower_units.specs.Text.{Continues, Leaves, Acts, continues, leaves}
use Rattle.lower_units.specs.Records.{is_taken, is_named_difference}
use Rattle.lower_forms.proofs.Body.{some_same}
use Rattle.lower_units.proofs.Exits.{jump_leaves, branch_leaves, branch_continues}
use Rattle.lower_units.proofs.Outcome.{Outcome, done, skipped, outcome, al_passes, not_nv}

key_lt : (t : Bool) (target : ℕ) → target < 4294967296 → target % 2 ≡ 0
    → key_of target t < 4294967296
key_lt true target h e = omega arith
key_lt false target h e = h

key_address : (t : Bool) (target : ℕ) → target % 2 ≡ 0 → target ≡ clear_bit0 (key_of target t)
key_address true target e = omega arith
key_address false target e = omega arith

-- what the text does is the manual's branch: only ARM links, where 4 bytes lead to the instruction
-- after
same_branch : (addr : ℕ) (m : Machine) (target : ℕ) → target % 2 ≡ 0 → (t l : Bool)
    → (t && l) ≡ false
    → ◌≡◌ {A = Machine × ℕ} (cond l (set_reg 14 ((addr + 4) % 4294967296) m) m, key_of target t)
    (cond l (set_reg 14 ((addr + size_of t) % 4294967296) m) m, key t target)
same_branch addr m target e true true q = absurd (true≢false q)
same_branch addr m target e true false q = λ j. (m, odd target e j)
  where
    odd : (k : ℕ) → k % 2 ≡ 0 → k / 2 * 2 + 1 ≡ k + 1
    odd k e = omega arith
same_branch addr m target e false l q =
    λ j. (cond l (set_reg 14 ((addr + 4) % 4294967296) m) m, even target j)
  where
    even : (k : ℕ) → k ≡ k + 0
    even k = omega arith

module _ (i : Instr) (link : Bool) (target : ℕ) (r : InRange (Branch link target)) (n : ℕ)
    (ks : List ℕ) (a : ℕ) (o : Owner) {z : State} {m : Machine}
    (s : Sound m) (g : Agrees z m) (nv : is_nv i.cond ≡ false) where
  ret : ℕ
  ret = (i.addr + 4) % 4294967296

  abbrev k : ℕ
  k = key_of target i.thumb

  hr : ret < 4294967296
  unfolding ret
  hr = mod-lt (i.addr + 4) (lit< tt)

  hk : k < 4294967296
  hk = key_lt i.thumb target r.0 r.1

  at : target ≡ clear_bit0 k
  at = key_address i.thumb target r.1

  -- the form, under Al or not
  form : Bool → Native
  form b =
      cond b (jump (flush_ticks n ++ each_on_line (branch_regs link ret target)) k)
      (F.branch_if (flush_ticks n) (cond_expr i.cond) (branch_regs link ret target) k)

  -- no Thumb instruction but the pair links
  taken : (i.thumb && link) ≡ false → passed i.cond m ≡ true
      → Leaves (native_text ks a o (emit_branch i.thumb n i link target)) z
      (branch i link target m)
  unfolding form ret
  taken f p =
      subst (Leaves (native_text ks a o (form (is_al i.cond))) z)
      (same_branch i.addr m target r.1 i.thumb link f) (go (is_al i.cond))
    where
      go : (b : Bool) → Leaves (native_text ks a o (form b)) z (cond link (set_reg 14 ret m) m, k)
      go true = jump_leaves ks a o n link ret target k hr r.0 hk at g
      go false = branch_leaves ks a o n link ret target k hr r.0 hk at s g i.cond nv p

  missed : passed i.cond m ≡ false
      → Continues (native_text ks a o (emit_branch i.thumb n i link target)) z m
  unfolding form ret
  missed p = go (is_al i.cond) refl
    where
      go : (b : Bool) → is_al i.cond ≡ b → Continues (native_text ks a o (form b)) z m
      go true e = absurd (true≢false (sym (al_passes i.cond e m) ∙ p))
      go false e = branch_continues ks a o n link ret target k hr r.0 hk at s g i.cond nv p

-- a branch: where its condition passes the text leaves as the manual's branch does, and where it
-- fails the text continues with the machine as it was
pub branch_means : (i : Instr) (link : Bool) (target : ℕ) → i.op ≡ Branch link target
    → InRange (Branch link target)
    → (cycles : ℕ) (ks : List ℕ) (a : ℕ) (o : Owner) {z : State} {m : Machine} → Sound m
    → Agrees z m → is_named_difference i m ≡ false
    → (next : Machine × ℕ) → execute i m ≡ some next
    → Acts (native_text ks a o (emit_branch i.thumb cycles i link target)) (is_taken i m) z next
    (key_after i)
branch_means i link target q r n ks a o {z} {m} s g d next e = let w = outcome i m next e in
    go (subst (λ (op : Op). no_instruction_of i.thumb i.cond op ≡ false) q w.0) w.1
  where
    nv : is_nv i.cond ≡ false
    nv = not_nv i m d

    Result : Machine × ℕ → Type 0
    Result next =
        Acts (native_text ks a o (emit_branch i.thumb n i link target)) (is_taken i m) z next
        (key_after i)

    go : (i.thumb && link) ≡ false → Outcome i m next → Result next
    go h (done p u f) =
        subst Result (some_same (subst (λ (op : Op). operation i op m ≡ some next) q f))
        (leaves (rw (p, q)) (taken i link target r n ks a o s g nv h p))
    go h (skipped p f) =
        subst Result f (continues (rw p) refl (missed i link target r n ks a o s g nv p))
