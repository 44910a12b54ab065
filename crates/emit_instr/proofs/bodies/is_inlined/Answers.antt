-- `bodies::is_inlined` meets its contract: an arm of one operation is given its fields, and `_`
-- answers for all that have no lines. Assumes nothing.
use Rattle.std.proofs.Common.{sym, refl, ap, ◌∙◌}
use Rattle.base_lists.specs.Lists.{is_some}
use Rattle.emit_mem.proofs.Offsets.{mem_inlined, block_mem_inlined}
use Rattle.emit_instr.proofs.Operations.{no_lines}
use Rattle.armv4t.specs.declared.Op.{Op}
use Rattle.lower_forms.specs.InlineBody.{op_body, inline_body}
use borrow.Enum.Refused.{opened}
use Rattle.emit_instr.proofs.bodies.is_inlined.Goals as goal

pub returns-in-Alu : goal.returns-in-Alu
unfolding inline_body
returns-in-Alu c =
    let a = c.args in
    c.alu_is_inlined.ensures a.thumb a.i c.in-Alu.op c.in-Alu.s c.in-Alu.rn
    ∙ sym (ap (λ (x : Op). is_some (op_body a.thumb a.i x)) c.in-Alu.is)

pub returns-in-Mul : goal.returns-in-Mul
unfolding inline_body
returns-in-Mul c =
    let a = c.args in
    c.mul_is_inlined.ensures a.thumb a.i c.in-Mul.acc c.in-Mul.s c.in-Mul.rn c.in-Mul.rs
    c.in-Mul.rm
    ∙ sym (ap (λ (x : Op). is_some (op_body a.thumb a.i x)) c.in-Mul.is)

pub returns-in-MulLong : goal.returns-in-MulLong
unfolding inline_body
returns-in-MulLong c = rw c.in-MulLong.is refl

pub returns-in-Mem : goal.returns-in-Mem
unfolding inline_body
returns-in-Mem c =
    let a = c.args in
    c.mem_is_inlined.ensures a.i
    ∙ sym (mem_inlined a.thumb a.i c.in-Mem.load c.in-Mem.width c.in-Mem.signed c.in-Mem.rd
    c.in-Mem.rn c.in-Mem.offset c.in-Mem.pre
    c.in-Mem.up c.in-Mem.writeback)
    ∙ sym (ap (λ (x : Op). is_some (op_body a.thumb a.i x)) c.in-Mem.is)

pub returns-in-BlockMem : goal.returns-in-BlockMem
unfolding inline_body
returns-in-BlockMem c =
    let a = c.args in
    c.block_mem_is_inlined.ensures
    ∙ sym (block_mem_inlined a.thumb a.i c.in-BlockMem.load c.in-BlockMem.rn c.in-BlockMem.rlist c.in-BlockMem.pre
    c.in-BlockMem.up c.in-BlockMem.s_bit c.in-BlockMem.writeback)
    ∙ sym (ap (λ (x : Op). is_some (op_body a.thumb a.i x)) c.in-BlockMem.is)

pub returns-in_default : goal.returns-in_default
unfolding inline_body
returns-in_default c =
    sym (ap is_some
    (no_lines c.args.thumb c.args.i c.args.i.op
    (opened c.in_default.in_default-own.keys6)))
