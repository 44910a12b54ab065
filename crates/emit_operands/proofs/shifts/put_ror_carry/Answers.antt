-- `emit_operands::shifts::put_ror_carry` meets its contract: what its calls write, one after
-- another. Assumes nothing.
use mathlib.Core.List.{[]}
use Rattle.emit_operands.specs.Operands.{source_expr}
use Rattle.emit_operands.proofs.Operands.{ror_carry, rrx_carry}
use Rattle.base_text.proofs.Laws.{wrote_as}
use Rattle.emit_operands.proofs.shifts.put_ror_carry.Goals as goal

pub returns-then-amount-eq0 : goal.returns-then-amount-eq0
returns-then-amount-eq0 c =
    let a = c.args in
    rw c.if-amount-eq0.true (wrote_as c.put_around.ensures (rrx_carry (source_expr a.from) []))

pub returns : goal.returns
returns c =
    wrote_as c.put_bit.ensures (ror_carry _ _ c.if-amount-eq0.false [])
