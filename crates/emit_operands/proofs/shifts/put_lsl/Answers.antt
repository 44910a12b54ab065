-- `emit_operands::shifts::put_lsl` meets its contract: what its calls write, one after another.
-- Assumes nothing.
use mathlib.Core.Path.{refl}
use mathlib.Core.List.{[]}
use Rattle.emit_operands.proofs.Operands.{lsl_text}
use Rattle.base_text.proofs.Laws.{wrote_as}
use Rattle.emit_operands.proofs.shifts.put_lsl.Goals as goal

pub returns-then-amount-eq0 : goal.returns-then-amount-eq0
returns-then-amount-eq0 c =
    rw c.if-amount-eq0.true (wrote_as c.put_reg.ensures refl)

pub returns : goal.returns
returns c =
    wrote_as c.put_amount.ensures (lsl_text _ _ c.if-amount-eq0.false [])
