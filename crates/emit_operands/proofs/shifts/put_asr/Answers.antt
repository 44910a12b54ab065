-- `emit_operands::shifts::put_asr` meets its contract: what its calls write, one after another.
-- Assumes nothing.
use mathlib.Core.Path.{refl}
use mathlib.Core.List.{[]}
use Rattle.emit_operands.proofs.Operands.{asr_text}
use Rattle.base_text.proofs.Laws.{wrote_as}
use Rattle.emit_operands.proofs.shifts.put_asr.Goals as goal

pub returns-then-amount-eq0 : goal.returns-then-amount-eq0
returns-then-amount-eq0 c =
    rw c.if-amount-eq0.true (wrote_as c.put_amount.ensures refl)

pub returns : goal.returns
returns c =
    wrote_as c.put_amount-2.ensures (asr_text _ _ c.if-amount-eq0.false [])
