-- `transfers::put_target` meets its contract: what its calls write, one after another.
-- Assumes nothing.
use Rattle.std.proofs.Common.{refl}
use Rattle.base_text.proofs.Laws.{wrote_as}
use Rattle.emit_mem.proofs.transfers.put_target.Goals as goal

pub returns-then-pop : goal.returns-then-pop
returns-then-pop c =
    rw c.if-pop.true (wrote_as c.put_then_dec.ensures refl)

pub returns-else-pop : goal.returns-else-pop
returns-else-pop c =
    rw c.if-pop.false (wrote_as c.put_then_dec-else-pop.ensures refl)
