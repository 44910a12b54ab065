-- `emit_operands::shifts::put_left_carry` meets its contract: what its calls write, one after
-- another. Assumes nothing.
use mathlib.Core.List.{[]}
use borrow.Author.Rules.{rules}
use Rattle.emit_operands.proofs.Operands.{left_carry}
use Rattle.base_text.proofs.Laws.{none, wrote_as}
use Rattle.emit_operands.proofs.shifts.put_left_carry.Goals as goal

pub returns-then-amount-eq0 : goal.returns-then-amount-eq0
returns-then-amount-eq0 c =
    rw c.if-amount-eq0.true (none (search rules) (search rules))

pub returns : goal.returns
returns c =
    wrote_as (rw c.last_out.ensures at c.put_bit.ensures)
    (left_carry _ _ c.if-amount-eq0.false [])
