-- `emit_alu::logical::put_logical_c` meets its contract: what its calls write, one after another.
-- Assumes nothing.
use mathlib.Core.Path.{sym, ◌∙◌}
use Rattle.emit_alu.proofs.Texts.{with_carry, without_carry}
use mathlib.Core.List.{[]}
use borrow.Author.Rules.{rules}
use Rattle.base_text.proofs.Laws.{none, seq, wrote_as}
use Rattle.lower_forms.specs.Operands.{operand_of}
use Rattle.emit_alu.proofs.logical.put_logical_c.Goals as goal

pub returns-then-op2_has_carry : goal.returns-then-op2_has_carry
returns-then-op2_has_carry c =
    let a = c.args in
    wrote_as (seq c.put-p.ensures (seq c.put_op2_carry-q.ensures c.put.ensures))
    (with_carry (operand_of a.pc a.op2).1
    (sym (c.op2_has_carry.ensures a.pc) ∙ c.if-op2_has_carry.true) [])

pub returns : goal.returns
returns c =
    let a = c.args in
    wrote_as (none (search rules) (search rules))
    (without_carry (operand_of a.pc a.op2).1
    (sym (c.op2_has_carry.ensures a.pc) ∙ c.if-op2_has_carry.false) [])
