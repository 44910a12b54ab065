-- `emit_flow::exits::put_taken` meets its contract: what its calls write, one after another.
-- Assumes nothing.
use mathlib.Core.Path.{refl}
use Rattle.base_text.specs.Digits.{numeral}
use Rattle.base_text.specs.Doc.{decimal}
use Rattle.base_text.proofs.Laws.{seq, wrote_as}
use Rattle.emit_flow.proofs.exits.put_taken.Goals as goal

pub returns-then-link : goal.returns-then-link
unfolding decimal numeral
returns-then-link c =
    rw c.if-link.true
    (wrote_as (seq c.put_then_hex8-p.ensures
    (seq c.put_then_hex8-q.ensures c.put.ensures)) refl)

pub returns-else-link : goal.returns-else-link
unfolding decimal numeral
returns-else-link c =
    rw c.if-link.false (wrote_as (seq c.put_then_hex8-p-else-link.ensures c.put-else-link.ensures) refl)
