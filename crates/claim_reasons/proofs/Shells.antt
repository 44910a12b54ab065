-- An instruction that is not fused is a shell exactly if one of the reasons' tests holds.
-- Assumes nothing.
use Prim.Native.Nat.{ℕ, zero, suc, ◌+◌}
use mathlib.Core.Path.{◌≡◌, refl, ap, ◌∙◌}
use mathlib.Core.Bool.{Bool, true, false, not, cond, ◌&&◌, ◌||◌}
use mathlib.Core.Option.{Option, none, some}
use lib.Dec.{eqb, eqb-suc-zero}
use Rattle.base_lists.specs.Lists.{is_some}
use Rattle.armv4t.specs.declared.Cond.{Cond}
use Rattle.armv4t.specs.declared.Op.{Op}
use Rattle.armv4t.specs.declared.Op.TheVariants.{Alu, Mul, MulLong, Swap, Bx, Branch, ThumbBlHigh}
use Rattle.armv4t.specs.declared.Op.TheVariants.{ThumbBlLow, Mem, BlockMem, Mrs, MsrReg, MsrImm}
use Rattle.armv4t.specs.declared.Op.TheVariants.{Swi, Undefined}
use Rattle.armv4t.specs.declared.ShiftKind.TheVariants.{Lsl, Lsr, Asr, Ror}
use Rattle.armv4t.specs.declared.Shift.{Shift}
use Rattle.armv4t.specs.declared.Operand2.{Operand2}
use Rattle.armv4t.specs.declared.MemOffset.{MemOffset}
use Rattle.armv4t.specs.declared.Instr.{Instr}
use Rattle.armv4t.specs.Cond.{is_al}
use Rattle.armv4t.specs.RegisterList.{is_listed}
use Rattle.c_tree.specs.Expr.{Expr}
use Rattle.file_instrs.specs.declared.decode.TimedInstr.{TimedInstr}
use Rattle.lower_forms.specs.Forms.{Lines, Native, bx, Form, native, is_native}
use Rattle.lower_forms.specs.Operands.{op2_exprs, reg_expr}
use Rattle.lower_forms.specs.InlineBody.{each_on_line, alu_body, mul_body, mem_body, base_expr, access}
use Rattle.lower_forms.specs.InlineBody.{offset_expr, listed, block_mem_body, op_body, inline_body}
use Rattle.lower_forms.specs.Block.{flush_ticks, emit_pop, emit_lines, emit_straight, emit_instr}
use Rattle.lower_reasons.specs.declared.types.Reason.{Reason}
use Rattle.lower_reasons.specs.declared.types.Reason.TheVariants.{ConditionalExit, BiosExit}
use Rattle.lower_reasons.specs.declared.types.Reason.TheVariants.{PcResult, RegisterShift}
use Rattle.lower_reasons.specs.declared.types.Reason.TheVariants.{ExtendOffset}
use Rattle.lower_reasons.specs.Reasons.{by_register, by_extend, operand_shift, offset_shift, passes}
use Rattle.lower_reasons.specs.Reasons.{ListFields, pops_pc, loads_pc, reason_by, reason_of}
use Rattle.lower_reasons.proofs.Pops.{list_reason, pop_facts}

-- an instruction by its parts
abbrev pub timed : ℕ → Cond → Op → Bool → ℕ → TimedInstr
timed addr c op thumb cost =
    record { instr = record { addr = addr; cond = c; op = op; thumb = thumb }; cost = cost }

-- whether a form is a shell
abbrev pub is_shell : Form → Bool
is_shell f = not (is_native f)

-- lines, or none of them
lined : (thumb touchesBus : Bool) (cycles : ℕ) (x : TimedInstr) (o : Option Lines)
    → is_shell (emit_lines thumb touchesBus cycles x o).0 ≡ not (is_some o)
lined thumb touchesBus cycles x none = refl
lined thumb touchesBus cycles x (some ls) = refl

some_if : (t : Bool) (r : Reason) → t ≡ is_some (cond t (some r) none)
some_if true r = refl
some_if false r = refl

-- an exit, native or not
exited : (t : Bool) (r : Native) (q : Form × ℕ)
    → is_shell (cond t (native r, 0) q).0 ≡ cond t false (is_shell q.0)
exited true r q = refl
exited false r q = refl

-- what has no lines if a test holds
unlined : (t : Bool) (ls : Lines) → not (is_some (cond t none (some ls))) ≡ t
unlined true ls = refl
unlined false ls = refl

-- rd 15, or a shift by a register
alu_reason : (t : Bool) (i : Instr) (op2 : Operand2)
    (f : Option (Expr × Option Expr) → Option Lines) → f none ≡ none
    → ((b : Expr × Option Expr) → is_some (f (some b)) ≡ true)
    → not (is_some (cond t none (f (op2_exprs i op2))))
    ≡ is_some
    (cond t (some PcResult)
    (cond (passes by_register (operand_shift op2) || false) (some RegisterShift) none))
alu_reason true i op2 f n s = refl
alu_reason false i (Operand2.Imm value rot) f n s = ap not (s _)
alu_reason false i (Operand2.Reg rm (Shift.Imm kind amount)) f n s = ap not (s _)
alu_reason false i (Operand2.Reg rm (Shift.Reg kind rs)) f n s = rw n

-- rd 15, a shift by a register, or a rotate with extend
mem_reason : (t : Bool) (i : Instr) (offset : MemOffset) (f : Option Expr → Option Lines)
    → f none ≡ none → ((e : Expr) → is_some (f (some e)) ≡ true)
    → not (is_some (cond t none (f (offset_expr i offset))))
    ≡ is_some
    (cond t (some PcResult)
    (cond (passes by_register (offset_shift offset)) (some RegisterShift)
    (cond (passes by_extend (offset_shift offset)) (some ExtendOffset) none)))
mem_reason true i offset f n s = refl
mem_reason false i (MemOffset.Imm value) f n s = ap not (s _)
mem_reason false i (MemOffset.Reg rm (Shift.Imm Lsl amount)) f n s = ap not (s _)
mem_reason false i (MemOffset.Reg rm (Shift.Imm Lsr amount)) f n s = ap not (s _)
mem_reason false i (MemOffset.Reg rm (Shift.Imm Asr amount)) f n s = ap not (s _)
mem_reason false i (MemOffset.Reg rm (Shift.Imm Ror zero)) f n s = rw n
mem_reason false i (MemOffset.Reg rm (Shift.Imm Ror (suc m))) f n s =
    rw (eqb-suc-zero m) (ap not (s _))
mem_reason false i (MemOffset.Reg rm (Shift.Reg kind rs)) f n s = rw n

list_other : (s e b l al bios : Bool)
    → (s || e || b || l) ≡ is_some (list_reason false s e b l al bios)
list_other true e b l al bios = refl
list_other false true b l al bios = refl
list_other false false true l al bios = refl
list_other false false false true al bios = refl
list_other false false false false al bios = refl

list_pop : (al bios : Bool)
    → cond (true && (al && not bios)) false true
    ≡ is_some (list_reason true false false false true al bios)
list_pop false bios = refl
list_pop true true = refl
list_pop true false = refl

-- a pop of PC is none of the others
list_reason_lem : (p s e b l al bios : Bool)
    → (p ≡ true → (s ≡ false) × (e ≡ false) × (b ≡ false) × (l ≡ true))
    → cond (p && (al && not bios)) false (s || e || b || l)
    ≡ is_some (list_reason p s e b l al bios)
list_reason_lem false s e b l al bios f = list_other s e b l al bios
list_reason_lem true s e b l al bios f =
    rw ((f refl).0, (f refl).1, (f refl).2, (f refl).3) (list_pop al bios)

bx_reason : (al bios : Bool)
    → cond (al && not bios) false true
    ≡ is_some (cond (not al) (some ConditionalExit) (cond bios (some BiosExit) none))
bx_reason false bios = refl
bx_reason true true = refl
bx_reason true false = refl

module _ (thumb : Bool) (region cycles addr : ℕ) (c : Cond) (own : Bool) (cost : ℕ) where
  abbrev at : Op → TimedInstr
  at op = timed addr c op own cost

  straight_shell : (touchesBus : Bool) (op : Op)
      → is_shell (emit_straight thumb touchesBus cycles (at op)).0
      ≡ not (is_some (op_body thumb (at op).instr op))
  unfolding inline_body
  straight_shell touchesBus op =
      lined thumb touchesBus cycles (at op) (op_body thumb (at op).instr op)

  op_shell : (op : Op) → is_shell (emit_instr thumb region cycles (at op)).0
      ≡ is_some (reason_of region (at op).instr)
  unfolding emit_instr reason_by inline_body
  op_shell (Alu op s rd rn op2) =
      let o : Op = Alu op s rd rn op2 in
      straight_shell false o
      ∙ alu_reason (eqb rd 15) (at o).instr op2 (alu_body op s rd (reg_expr (at o).instr rn)) refl
      (λ b. refl)
  op_shell (Mul acc s rd rn rs rm) =
      straight_shell false (Mul acc s rd rn rs rm)
      ∙ unlined (eqb rd 15) (each_on_line (mul_body acc s rd rn rs rm))
      ∙ some_if (eqb rd 15) PcResult
  op_shell (MulLong signed acc s hi lo rs rm) = refl
  op_shell (Swap byte rd rm rn) = refl
  op_shell (Bx rm) =
      exited (is_al c && not (eqb region 0))
      (bx (flush_ticks (cycles + cost)) (reg_expr (at (Bx rm)).instr rm))
      (emit_straight thumb false cycles (at (Bx rm)))
      ∙ bx_reason (is_al c) (eqb region 0)
  op_shell (Branch link target) = refl
  op_shell (ThumbBlHigh lr) = refl
  op_shell (ThumbBlLow off) = refl
  op_shell (Mem load width signed rd rn offset pre up writeback) =
      let o : Op = Mem load width signed rd rn offset pre up writeback in
      straight_shell true o
      ∙ mem_reason (eqb rd 15) (at o).instr offset
      (mem_body (base_expr thumb (at o).instr rn) up pre
      (access load width signed rd rn (not pre || writeback))) refl (λ e. refl)
  op_shell (BlockMem load rn rlist pre up s_bit writeback) =
      let t : ListFields = record {
        load = load;
        rn = rn;
        rlist = rlist;
        pre = pre;
        up = up;
        s_bit = s_bit;
        writeback = writeback;
      } in
      let o : Op = BlockMem load rn rlist pre up s_bit writeback in
      let native-pop : Bool = pops_pc t && (is_al c && not (eqb region 0)) in
      exited native-pop (emit_pop thumb (cycles + cost) rn (listed rlist 15))
      (emit_straight thumb true cycles (at o))
      ∙ ap (cond native-pop false)
      (straight_shell true o
      ∙ unlined (s_bit || eqb rlist 0 || eqb rn 15 || loads_pc t)
      (block_mem_body (at o).instr load rn (is_listed rlist rn) pre up writeback (listed rlist 16)))
      ∙ list_reason_lem (pops_pc t) s_bit (eqb rlist 0) (eqb rn 15) (loads_pc t) (is_al c) (eqb region 0)
      (pop_facts t)
  op_shell (Mrs spsr rd) = refl
  op_shell (MsrReg spsr fields rm) = refl
  op_shell (MsrImm spsr fields value) = refl
  op_shell (Swi imm) = refl
  op_shell (Undefined raw) = refl

-- an instruction that is not fused, in a block of a region, is a shell exactly if there is a reason
pub shell_reason : (thumb : Bool) (region cycles : ℕ) (x : TimedInstr)
    → is_shell (emit_instr thumb region cycles x).0 ≡ is_some (reason_of region x.instr)
shell_reason thumb region cycles x =
    op_shell thumb region cycles x.instr.addr x.instr.cond x.instr.thumb x.cost
    x.instr.op

-- so it is native exactly if there is none
not_not : (t m : Bool) → not t ≡ m → t ≡ not m
not_not true m e = ap not e
not_not false m e = ap not e

pub native_reason : (thumb : Bool) (region cycles : ℕ) (x : TimedInstr)
    → is_native (emit_instr thumb region cycles x).0 ≡ not (is_some (reason_of region x.instr))
native_reason thumb region cycles x =
    not_not (is_native (emit_instr thumb region cycles x).0) (is_some (reason_of region x.instr))
    (shell_reason thumb region cycles x)
