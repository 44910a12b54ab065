-- The forms of a block's instructions one by one: an instruction alone, or a fused pair, and those
-- after it. Assumes nothing.
use Rattle.std.proofs.Common.{◌≡◌, ℕ, suc, ◌+◌, ◌<◌, Bool, true, false, eqb, List, [], ◌∷◌, drop, sym, refl, ap, ◌∙◌, arith, eqb-true, Some, None}
use borrow.Author.Tests.{eqb-false}
use Rattle.armv4t.specs.Fused.{Fused, fuse}
use Rattle.file_instrs.specs.declared.decode.TimedInstr.{TimedInstr}
use Rattle.file_blocks.specs.Parse.{instrs_from}
use Rattle.file_blocks.proofs.ReadInstrs.{instr_at, drop_instr, drop_all}
use Rattle.lower_forms.specs.Forms.{Form}
use Rattle.lower_forms.specs.Block.{emit_pair, emit_instr, fused_or, cons_form, emit_instrs}
use Rattle.file_blocks.specs.declared.next.FusedPair.{FusedPair}
use Rattle.base_lists.specs.Lists.{is_empty}
use Rattle.file_blocks.specs.Read.{fused_next, next_of}

module _ (thumb : Bool) (region cycles : ℕ) (x : TimedInstr) where
  -- an instruction that makes no pair
  pub instrs_alone : (ys : List TimedInstr) → next_of x.instr ys ≡ None
      → emit_instrs thumb region cycles (x ∷ ys)
      ≡ cons_form (emit_instr thumb region cycles x).0
      (emit_instrs thumb region (emit_instr thumb region cycles x).1 ys)
  unfolding emit_instrs
  instrs_alone [] e = refl
  instrs_alone (y ∷ ys) e = by (fuse x.instr y.instr) e
    where
      by : (o : Fused) → fused_next o y.cost ≡ None
          → fused_or o
          (cons_form (emit_instr thumb region cycles x).0
          (emit_instrs thumb region (emit_instr thumb region cycles x).1 (y ∷ ys)))
          (λ target ret. cons_form (Form.native (emit_pair (cycles + (x.cost + y.cost)) target ret))
          (emit_instrs thumb region 0 ys))
          ≡ cons_form (emit_instr thumb region cycles x).0
          (emit_instrs thumb region (emit_instr thumb region cycles x).1 (y ∷ ys))
      by None e = refl
      by (Some (target, ret)) e = absurd (let z : ◌≡◌ {A = ℕ} 0 1 = cc in omega arith)

  -- a fused pair, whatever stands after it
  pub instrs_pair : (ys : List TimedInstr) (p : FusedPair) → next_of x.instr ys ≡ Some p
      → (fs : List Form)
      × ((emit_instrs thumb region cycles (x ∷ ys)).0
      ≡ Form.native (emit_pair (cycles + (x.cost + p.cost)) p.target p.ret) ∷ fs)
  unfolding emit_instrs
  instrs_pair [] p e = absurd (let z : ◌≡◌ {A = ℕ} 0 1 = cc in omega arith)
  instrs_pair (y ∷ ys) p e = by (fuse x.instr y.instr) e
    where
      by : (o : Fused) → fused_next o y.cost ≡ Some p
          → (fs : List Form)
          × ((fused_or o
          (cons_form (emit_instr thumb region cycles x).0
          (emit_instrs thumb region (emit_instr thumb region cycles x).1 (y ∷ ys)))
          (λ target ret. cons_form (Form.native (emit_pair (cycles + (x.cost + y.cost)) target ret))
          (emit_instrs thumb region 0 ys))).0
          ≡ Form.native (emit_pair (cycles + (x.cost + p.cost)) p.target p.ret) ∷ fs)
      by None e = absurd (let z : ◌≡◌ {A = ℕ} 0 1 = cc in omega arith)
      by (Some (t, r)) e = ((emit_instrs thumb region 0 ys).0, cc)

-- there are forms exactly if there are instructions
pub empty_forms : (thumb : Bool) (region cycles : ℕ) (x : TimedInstr) (ys : List TimedInstr)
    → is_empty (emit_instrs thumb region cycles (x ∷ ys)).0 ≡ false
unfolding emit_instrs
empty_forms thumb region cycles x [] = refl
empty_forms thumb region cycles x (y ∷ ys) = by (fuse x.instr y.instr)
  where
    by : (o : Fused)
        → is_empty
        (fused_or o
        (cons_form (emit_instr thumb region cycles x).0
        (emit_instrs thumb region (emit_instr thumb region cycles x).1 (y ∷ ys)))
        (λ target ret. cons_form (Form.native (emit_pair (cycles + (x.cost + y.cost)) target ret))
        (emit_instrs thumb region 0 ys))).0 ≡ false
    by None = refl
    by (Some (t, r)) = refl

-- an instruction is the last exactly if there is no form after it
pub empty_after : (f : List ℕ) (thumb : Bool) (n k addr j region cycles : ℕ) → j < n
    → eqb (j + 1) n
    ≡ is_empty (emit_instrs thumb region cycles (drop (suc j) (instrs_from f n k addr thumb))).0
unfolding emit_instrs
empty_after f thumb n k addr j region cycles h = by (eqb (j + 1) n) refl
  where
    by : (b : Bool) → eqb (j + 1) n ≡ b
        → eqb (j + 1) n
        ≡ is_empty (emit_instrs thumb region cycles (drop (suc j) (instrs_from f n k addr thumb))).0
    by true e =
        let all : suc j ≡ n = omega (arith, eqb-true (j + 1) n e) in
        e ∙ ap (λ (ys : List TimedInstr). is_empty (emit_instrs thumb region cycles ys).0)
        (sym (drop_all f thumb n k addr)
        ∙ ap (λ (m : ℕ). drop m (instrs_from f n k addr thumb)) (sym all))
    by false e =
        let more : suc j < n = omega (arith, eqb-false (j + 1) n e) in
        e ∙ sym (ap (λ (ys : List TimedInstr). is_empty (emit_instrs thumb region cycles ys).0)
        (drop_instr f thumb n k addr (suc j) more)
        ∙ empty_forms thumb region cycles (instr_at f k addr thumb (suc j))
        (drop (suc (suc j)) (instrs_from f n k addr thumb)))
