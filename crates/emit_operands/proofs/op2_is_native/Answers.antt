-- `op2_is_native` answers whether the second operand can be written.
-- Assumes nothing.
use mathlib.Core.Path.{refl}
use Rattle.emit_operands.proofs.op2_is_native.Goals as goal

pub returns-in-Imm : goal.returns-in-Imm
returns-in-Imm c = λ i. rw c.in-Imm.is refl

pub returns-in-Reg : goal.returns-in-Reg
returns-in-Reg c =
    λ i. rw c.in-Reg.is
    (c.shift_is_native.ensures i c.in-Reg.rm)
