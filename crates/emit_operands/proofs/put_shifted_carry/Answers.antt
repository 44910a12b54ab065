-- `emit_operands::put_shifted_carry` meets its contract: what its calls write, one after another.
-- Assumes nothing.
use mathlib.Core.Path.{refl}
use borrow.Author.Rules.{rules}
use Rattle.base_text.proofs.Laws.{none, wrote_as}
use Rattle.emit_operands.proofs.put_shifted_carry.Goals as goal

pub returns-in-Imm : goal.returns-in-Imm
returns-in-Imm c =
    rw c.in-Imm.is (wrote_as c.put_shift_carry.ensures refl)

pub returns-in-Reg : goal.returns-in-Reg
returns-in-Reg c =
    rw c.in-Reg.is (none (search rules) (search rules))
