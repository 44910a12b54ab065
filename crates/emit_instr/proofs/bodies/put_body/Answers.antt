-- `bodies::put_body` meets its contract: an arm of one operation is given its fields, and `_`
-- answers for all that have no lines. Assumes nothing.
use Rattle.std.proofs.Common.{◌&&◌, ◌||◌, eqb, sym, refl, ◌∙◌}
use mathlib.Core.Option.{some-injective, none-ne-some}
use Rattle.armv4t.specs.declared.Op.TheVariants.{Alu, Mul, MulLong, Mem, BlockMem}
use Rattle.armv4t.specs.RegisterList.{is_listed}
use Rattle.emit_alu.proofs.Bodies.{mul_lines_lem}
use Rattle.emit_instr.proofs.Lined.{as_lines, known_body, tested, tested_lines, alu_by_pc}
use Rattle.emit_instr.proofs.Operations.{no_lines}
use borrow.Enum.Refused.{opened}
use Rattle.emit_instr.proofs.bodies.put_body.Goals as goal

pub returns-in-Alu : goal.returns-in-Alu
returns-in-Alu c =
    let a = c.args in
    λ body e.
    let e' =
    known_body a.thumb a.i
    (Alu c.in-Alu.op c.in-Alu.s c.in-Alu.rd c.in-Alu.rn c.in-Alu.op2) body
    c.in-Alu.is e in
    as_lines _ body
    (alu_by_pc a.thumb a.i c.in-Alu.op c.in-Alu.s c.in-Alu.rd c.in-Alu.rn
    c.in-Alu.op2 c.pc_value.result body c.pc_value.ensures
    e') c.put_alu.ensures

pub returns-in-Mul : goal.returns-in-Mul
returns-in-Mul c =
    let a = c.args in
    λ body e.
    let e' =
    known_body a.thumb a.i
    (Mul c.in-Mul.acc c.in-Mul.s c.in-Mul.rd c.in-Mul.rn c.in-Mul.rs c.in-Mul.rm)
    body c.in-Mul.is e in
    as_lines _ body
    (mul_lines_lem a.thumb a.i c.in-Mul.acc c.in-Mul.s c.in-Mul.rd c.in-Mul.rn
    c.in-Mul.rs c.in-Mul.rm body e') c.put_mul.ensures

pub returns-in-MulLong : goal.returns-in-MulLong
returns-in-MulLong c =
    let a = c.args in
    λ body e.
    let e' =
    known_body a.thumb a.i
    (MulLong c.in-MulLong.signed c.in-MulLong.acc c.in-MulLong.s c.in-MulLong.rd_hi c.in-MulLong.rd_lo
    c.in-MulLong.rs c.in-MulLong.rm) body c.in-MulLong.is e in
    as_lines _ body (some-injective _ _ e') c.put_mul_long.ensures

pub returns-in-Mem : goal.returns-in-Mem
returns-in-Mem c =
    let a = c.args in
    λ body e.
    let e' =
    known_body a.thumb a.i
    (Mem c.in-Mem.load c.in-Mem.width c.in-Mem.signed c.in-Mem.rd c.in-Mem.rn c.in-Mem.offset
    c.in-Mem.pre c.in-Mem.up c.in-Mem.writeback) body
    c.in-Mem.is e in
    c.put_mem.ensures body (tested (eqb c.in-Mem.rd 15) _ body e')

pub returns-in-BlockMem : goal.returns-in-BlockMem
returns-in-BlockMem c =
    let a = c.args in
    λ body e.
    let e' =
    known_body a.thumb a.i
    (BlockMem c.in-BlockMem.load c.in-BlockMem.rn c.in-BlockMem.rlist c.in-BlockMem.pre c.in-BlockMem.up
    c.in-BlockMem.s_bit c.in-BlockMem.writeback) body c.in-BlockMem.is e in
    as_lines _ body
    (tested_lines
    (c.in-BlockMem.s_bit || eqb c.in-BlockMem.rlist 0 || eqb c.in-BlockMem.rn 15
    || (c.in-BlockMem.load && is_listed c.in-BlockMem.rlist 15)) _ body e') c.put_block_mem.ensures

pub returns-in_default : goal.returns-in_default
returns-in_default c =
    let a = c.args in
    λ body e. absurd
    (none-ne-some body
    (sym (no_lines a.thumb a.i a.i.op (opened c.in_default.in_default-own.keys6))
    ∙ known_body a.thumb a.i a.i.op body refl e))
