-- `offset_is_inlined` answers whether an offset can be written.
-- Assumes nothing.
use Rattle.std.proofs.Common.{refl}
use Rattle.emit_mem.proofs.inlined.offset_is_inlined.Goals as goal

pub returns-in-Imm : goal.returns-in-Imm
returns-in-Imm c = λ i. rw c.in-Imm.is refl

pub returns-in-Reg : goal.returns-in-Reg
returns-in-Reg c =
    λ i. rw c.in-Reg.is
    (c.shift_is_inlined.ensures i c.in-Reg.rm)
