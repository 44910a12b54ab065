-- `mem::put_addr_line` meets its contract: what its calls write, one after another.
-- Assumes nothing.
use Rattle.std.proofs.Common.{refl}
use Rattle.base_text.proofs.Laws.{wrote_as}
use Rattle.emit_mem.proofs.mem.put_addr_line.Goals as goal

pub returns-then-pre : goal.returns-then-pre
returns-then-pre c =
    rw c.if-pre.true (wrote_as c.put.ensures refl)

pub returns-else-pre : goal.returns-else-pre
returns-else-pre c =
    rw c.if-pre.false (wrote_as c.put-else-pre.ensures refl)
