-- `access::put_access` meets its contract: what its calls write, one after another.
-- Assumes nothing.
use Rattle.std.proofs.Common.{refl}
use Rattle.base_text.proofs.Laws.{wrote_as}
use Rattle.emit_mem.proofs.access.put_access.Goals as goal

pub returns-then-m : goal.returns-then-m
returns-then-m c =
    rw c.if-m.true (wrote_as c.put_mem_load.ensures refl)

pub returns-else-m : goal.returns-else-m
returns-else-m c =
    rw c.if-m.false (wrote_as c.put_mem_store.ensures refl)
