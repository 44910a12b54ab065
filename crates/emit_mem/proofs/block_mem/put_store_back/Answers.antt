-- `block_mem::put_store_back` meets its contract: what its calls write, one after another.
-- Assumes nothing.
use Rattle.std.proofs.Common.{refl, rules}
use Rattle.base_text.proofs.Laws.{none, wrote_as}
use Rattle.emit_mem.proofs.block_mem.put_store_back.Goals as goal

pub returns-then-m : goal.returns-then-m
returns-then-m c =
    rw c.if-m.true (wrote_as c.put_write_back.ensures refl)

pub returns : goal.returns
returns c =
    rw c.if-m.false (none (search rules) (search rules))
