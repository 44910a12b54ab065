-- `emit_flow::exits::set_link` meets its contract: what its calls write, one after another. Assumes
-- nothing.
use mathlib.Core.Path.{refl}
use borrow.Author.Rules.{rules}
use Rattle.base_text.proofs.Laws.{none, wrote_as}
use Rattle.emit_flow.proofs.exits.set_link.Goals as goal

pub returns-then-link : goal.returns-then-link
returns-then-link c =
    rw c.if-link.true (wrote_as c.set_lr.ensures refl)

pub returns-else-link : goal.returns-else-link
returns-else-link c =
    rw c.if-link.false (none (search rules) (search rules))
