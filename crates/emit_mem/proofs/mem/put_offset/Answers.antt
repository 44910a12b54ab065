-- `mem::put_offset` meets its contract: what its calls write, one after another.
-- Assumes nothing.
use Rattle.std.proofs.Common.{refl}
use Rattle.base_text.proofs.Laws.{wrote_as}
use Rattle.emit_mem.proofs.mem.put_offset.Goals as goal

pub returns-in-Imm : goal.returns-in-Imm
returns-in-Imm c =
    rw c.in-Imm.is (wrote_as c.put_offset_value.ensures refl)

pub returns-in-Reg : goal.returns-in-Reg
returns-in-Reg c =
    rw c.in-Reg.is (wrote_as c.put_op2_value.ensures refl)
