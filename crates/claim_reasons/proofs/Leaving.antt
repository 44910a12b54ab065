-- Which forms drop what stands after them: those of unconditional native exits.
-- Assumes nothing.
use Prim.Native.Nat.{ℕ, ◌+◌}
use mathlib.Core.Path.{◌≡◌, refl, sym, ◌∙◌}
use mathlib.Core.Bool.{Bool, true, false, not, cond, ◌&&◌, ◌||◌, and-false, and-true, or-false}
use mathlib.Core.Option.{Option, none, some}
use lib.Dec.{eqb}
use Rattle.armv4t.specs.declared.Cond.{Cond}
use Rattle.armv4t.specs.declared.Op.{Op}
use Rattle.armv4t.specs.declared.Op.TheVariants.{Alu, Mul, MulLong, Swap, Bx, Branch, ThumbBlHigh}
use Rattle.armv4t.specs.declared.Op.TheVariants.{ThumbBlLow, Mem, BlockMem, Mrs, MsrReg, MsrImm}
use Rattle.armv4t.specs.declared.Op.TheVariants.{Swi, Undefined}
use Rattle.armv4t.specs.Cond.{is_al}
use Rattle.base_lists.proofs.Bools.{either}
use Rattle.file_instrs.specs.declared.decode.TimedInstr.{TimedInstr}
use Rattle.lower_forms.specs.Forms.{Lines, Native, straight, straight_if, branch_if, jump, pair, bx}
use Rattle.lower_forms.specs.Forms.{pop, Form, native, shell}
use Rattle.lower_forms.specs.Operands.{reg_expr}
use Rattle.lower_forms.specs.InlineBody.{listed, inline_body}
use Rattle.lower_forms.specs.Block.{flush_ticks, emit_pop, emit_lines, emit_straight, emit_branch}
use Rattle.lower_forms.specs.Block.{emit_instr}
use Rattle.lower_reasons.specs.Reasons.{ListFields, pops_pc}
use Rattle.lower_reasons.specs.Said.{drops_rest_by, drops_rest}
use Rattle.claim_reasons.proofs.Shells.{timed}

-- whether a native form is an unconditional exit, which drops the rest of the block
abbrev pub drops : Native → Bool
drops (straight t l) = false
drops (straight_if t e l) = false
drops (branch_if t e l k) = false
drops (jump t k) = true
drops (pair t k) = true
drops (bx t e) = true
drops (pop t p l q e) = true

-- whether a form drops what stands after it; a shell does not
abbrev pub drops_form : Form → Bool
drops_form (native r) = drops r
drops_form (shell high t k) = false

lined_on : (thumb touchesBus : Bool) (cycles : ℕ) (x : TimedInstr) (o : Option Lines)
    → drops_form (emit_lines thumb touchesBus cycles x o).0 ≡ false
lined_on thumb touchesBus cycles x none = refl
lined_on thumb touchesBus cycles x (some ls) =
    either (λ (r : Native). drops r ≡ false) (is_al x.instr.cond) refl refl

exited_on : (t : Bool) (r : Native) (q : Form × ℕ) → drops r ≡ true → drops_form q.0 ≡ false
    → drops_form (cond t (native r, 0) q).0 ≡ t
exited_on true r q d e = d
exited_on false r q d e = e

branched : (thumb : Bool) (cycles : ℕ) (x : TimedInstr) (link : Bool) (target : ℕ) (al : Bool)
    → is_al x.instr.cond ≡ al → drops (emit_branch thumb cycles x.instr link target) ≡ al
branched thumb cycles x link target true e = rw e
branched thumb cycles x link target false e = rw e

-- an exit that is no Branch
alone : (t al : Bool) → t ≡ (t || (al && false))
alone t al = rw (and-false al) (sym (or-false t))

module _ (thumb : Bool) (region cycles addr : ℕ) (c : Cond) (own : Bool) (cost : ℕ) where
  abbrev at : Op → TimedInstr
  at op = timed addr c op own cost

  straight_on : (touchesBus : Bool) (op : Op)
      → drops_form (emit_straight thumb touchesBus cycles (at op)).0 ≡ (is_al c && false)
  straight_on touchesBus op =
      lined_on thumb touchesBus cycles (at op) (inline_body thumb (at op).instr)
      ∙ sym (and-false (is_al c))

  op_leaves : (op : Op) → drops_form (emit_instr thumb region cycles (at op)).0
      ≡ drops_rest region (at op).instr
  unfolding emit_instr drops_rest_by
  op_leaves (Alu op s rd rn op2) = straight_on false (Alu op s rd rn op2)
  op_leaves (Mul acc s rd rn rs rm) = straight_on false (Mul acc s rd rn rs rm)
  op_leaves (MulLong signed acc s hi lo rs rm) =
      straight_on false (MulLong signed acc s hi lo rs rm)
  op_leaves (Swap byte rd rm rn) = straight_on false (Swap byte rd rm rn)
  op_leaves (Bx rm) =
      exited_on (is_al c && not (eqb region 0))
      (bx (flush_ticks (cycles + cost)) (reg_expr (at (Bx rm)).instr rm))
      (emit_straight thumb false cycles (at (Bx rm))) refl
      (lined_on thumb false cycles (at (Bx rm)) (inline_body thumb (at (Bx rm)).instr))
      ∙ alone (is_al c && not (eqb region 0)) (is_al c)
  op_leaves (Branch link target) =
      branched thumb (cycles + cost) (at (Branch link target)) link target (is_al c) refl
      ∙ sym (and-true (is_al c))
  op_leaves (ThumbBlHigh lr) = sym (and-false (is_al c))
  op_leaves (ThumbBlLow off) = straight_on false (ThumbBlLow off)
  op_leaves (Mem load width signed rd rn offset pre up writeback) =
      straight_on true (Mem load width signed rd rn offset pre up writeback)
  op_leaves (BlockMem load rn rlist pre up s_bit writeback) =
      let t : ListFields = record {
        load = load;
        rn = rn;
        rlist = rlist;
        pre = pre;
        up = up;
        s_bit = s_bit;
        writeback = writeback;
      } in
      let o : Op = BlockMem load rn rlist pre up s_bit writeback in
      exited_on (pops_pc t && (is_al c && not (eqb region 0)))
      (emit_pop thumb (cycles + cost) rn (listed rlist 15)) (emit_straight thumb true cycles (at o))
      refl (lined_on thumb true cycles (at o) (inline_body thumb (at o).instr))
      ∙ alone (pops_pc t && (is_al c && not (eqb region 0))) (is_al c)
  op_leaves (Mrs spsr rd) = straight_on false (Mrs spsr rd)
  op_leaves (MsrReg spsr fields rm) = straight_on false (MsrReg spsr fields rm)
  op_leaves (MsrImm spsr fields value) = straight_on false (MsrImm spsr fields value)
  op_leaves (Swi imm) = straight_on false (Swi imm)
  op_leaves (Undefined raw) = straight_on false (Undefined raw)

-- an instruction that is not fused drops the rest of the block exactly if it is an unconditional
-- native exit
pub form_leaves : (thumb : Bool) (region cycles : ℕ) (x : TimedInstr)
    → drops_form (emit_instr thumb region cycles x).0 ≡ drops_rest region x.instr
form_leaves thumb region cycles x =
    op_leaves thumb region cycles x.instr.addr x.instr.cond x.instr.thumb x.cost
    x.instr.op
