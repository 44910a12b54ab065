-- `op2_has_carry` answers whether the second operand gives a carry.
-- Assumes nothing.
use Rattle.emit_operands.proofs.op2_has_carry.Goals as goal

pub returns-in-Reg : goal.returns-in-Reg
returns-in-Reg c =
    λ pc. rw c.in-Reg.is
    (c.shift_has_carry.ensures pc c.in-Reg.rm)
