-- `shift_has_carry` answers whether a register operand gives a carry.
-- Assumes nothing.
use mathlib.Core.Path.{refl}
use Rattle.emit_operands.proofs.shift_has_carry.Goals as goal

pub returns-in-Imm : goal.returns-in-Imm
returns-in-Imm c = λ pc rm. rw c.in-Imm.is (c.kind_has_carry.ensures _)

pub returns-in-Reg : goal.returns-in-Reg
returns-in-Reg c = λ pc rm. rw c.in-Reg.is refl
