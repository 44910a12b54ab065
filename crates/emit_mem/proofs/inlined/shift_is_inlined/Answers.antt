-- `shift_is_inlined` answers whether a shift can be written.
-- Assumes nothing.
use Rattle.std.proofs.Common.{refl}
use Rattle.emit_mem.proofs.inlined.shift_is_inlined.Goals as goal

pub returns-in-Imm : goal.returns-in-Imm
returns-in-Imm c = λ i rm. rw c.in-Imm.is (c.kind_is_inlined.ensures _)

pub returns-in-Reg : goal.returns-in-Reg
returns-in-Reg c = λ i rm. rw c.in-Reg.is refl
