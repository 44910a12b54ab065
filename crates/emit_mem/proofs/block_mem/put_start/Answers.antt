-- `block_mem::put_start` meets its contract: what its calls write, one after another.
-- Assumes nothing.
use Rattle.std.proofs.Common.{refl}
use Rattle.base_text.specs.Digits.{numeral}
use Rattle.base_text.specs.Doc.{decimal}
use Rattle.base_text.proofs.Laws.{wrote_as}
use Rattle.emit_mem.proofs.block_mem.put_start.Goals as goal

pub returns-then-pre : goal.returns-then-pre
unfolding decimal numeral
returns-then-pre c =
    rw (c.if-pre.true, c.if-up.true) (wrote_as c.put.ensures refl)

pub returns-then-up : goal.returns-then-up
unfolding decimal numeral
returns-then-up c =
    rw (c.if-pre.false, c.if-up.true) (wrote_as c.put-then-up.ensures refl)

pub returns : goal.returns
unfolding decimal numeral
returns c =
    rw c.if-up.false (wrote_as c.put_down.ensures refl)
