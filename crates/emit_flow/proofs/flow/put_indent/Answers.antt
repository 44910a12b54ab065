-- `emit_flow::flow::put_indent` meets its contract: what its calls write, one after another.
-- Assumes nothing.
use mathlib.Core.Path.{refl}
use Rattle.base_text.proofs.Laws.{wrote_as}
use Rattle.emit_flow.proofs.flow.put_indent.Goals as goal

pub returns-then-deep : goal.returns-then-deep
returns-then-deep c =
    rw c.if-deep.true (wrote_as c.put.ensures refl)

pub returns-else-deep : goal.returns-else-deep
returns-else-deep c =
    rw c.if-deep.false (wrote_as c.put-else-deep.ensures refl)
