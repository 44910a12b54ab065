-- `mem::put_step` meets its contract: what its calls write, one after another.
-- Assumes nothing.
use Rattle.std.proofs.Common.{refl}
use Rattle.base_text.proofs.Laws.{wrote_as}
use Rattle.emit_mem.proofs.mem.put_step.Goals as goal

pub returns-then-up : goal.returns-then-up
returns-then-up c =
    rw c.if-up.true (wrote_as c.put.ensures refl)

pub returns-else-up : goal.returns-else-up
returns-else-up c =
    rw c.if-up.false (wrote_as c.put-else-up.ensures refl)
