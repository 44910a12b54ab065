-- `emit_alu::sum::put_between` meets its contract: what its calls write, one after another. Assumes
-- nothing.
use mathlib.Core.Path.{refl}
use Rattle.base_text.proofs.Laws.{wrote_as}
use Rattle.emit_alu.proofs.sum.put_between.Goals as goal

pub returns-then-s : goal.returns-then-s
returns-then-s c =
    rw c.if-s.true (wrote_as c.put.ensures refl)

pub returns-else-s : goal.returns-else-s
returns-else-s c =
    rw c.if-s.false (wrote_as c.put-else-s.ensures refl)
