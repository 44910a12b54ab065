-- `emit_operands::shifts::put_shift_value` meets its contract: what its calls write, one after
-- another. Assumes nothing.
use mathlib.Core.Path.{refl}
use Rattle.base_text.proofs.Laws.{wrote_as}
use Rattle.emit_operands.proofs.shifts.put_shift_value.Goals as goal

pub returns-in-Lsl : goal.returns-in-Lsl
returns-in-Lsl c =
    rw c.in-Lsl.is (wrote_as c.put_lsl.ensures refl)

pub returns-in-Lsr : goal.returns-in-Lsr
returns-in-Lsr c =
    rw c.in-Lsr.is (wrote_as c.put_lsr.ensures refl)

pub returns-in-Asr : goal.returns-in-Asr
returns-in-Asr c =
    rw c.in-Asr.is (wrote_as c.put_asr.ensures refl)

pub returns-in-Ror : goal.returns-in-Ror
returns-in-Ror c =
    rw c.in-Ror.is (wrote_as c.put_ror.ensures refl)
