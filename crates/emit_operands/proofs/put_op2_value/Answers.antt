-- `emit_operands::put_op2_value` meets its contract: what its calls write, one after another.
-- Assumes nothing.
use mathlib.Core.Path.{refl}
use Rattle.base_text.proofs.Laws.{wrote_as}
use Rattle.emit_operands.proofs.put_op2_value.Goals as goal

pub returns-in-Imm : goal.returns-in-Imm
returns-in-Imm c =
    rw c.in-Imm.is (wrote_as c.put_word.ensures refl)

pub returns-in-Reg : goal.returns-in-Reg
returns-in-Reg c =
    rw c.in-Reg.is (wrote_as c.put_shifted.ensures refl)
