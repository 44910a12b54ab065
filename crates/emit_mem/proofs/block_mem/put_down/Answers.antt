-- `block_mem::put_down` meets its contract: what its calls write, one after another.
-- Assumes nothing.
use Rattle.std.proofs.Common.{refl}
use Rattle.base_text.specs.Digits.{numeral}
use Rattle.base_text.specs.Doc.{decimal}
use Rattle.base_text.proofs.Laws.{seq, wrote_as}
use Rattle.emit_mem.proofs.block_mem.put_down.Goals as goal

pub returns-then-pre : goal.returns-then-pre
unfolding decimal numeral
returns-then-pre c =
    rw c.if-pre.true (wrote_as (seq c.put_then_dec-p.ensures c.put.ensures) refl)

pub returns-else-pre : goal.returns-else-pre
unfolding decimal numeral
returns-else-pre c =
    rw c.if-pre.false (wrote_as (seq c.put_then_dec-p.ensures c.put-else-pre.ensures) refl)
