-- `access::put_half` meets its contract: what its calls write, one after another.
-- Assumes nothing.
use Rattle.std.proofs.Common.{refl}
use Rattle.base_text.specs.Digits.{numeral}
use Rattle.base_text.specs.Doc.{decimal}
use Rattle.base_text.proofs.Laws.{wrote_as}
use Rattle.emit_mem.proofs.access.put_half.Goals as goal

pub returns-then-signed : goal.returns-then-signed
unfolding decimal numeral
returns-then-signed c =
    rw c.if-signed.true (wrote_as c.put.ensures refl)

pub returns-else-signed : goal.returns-else-signed
unfolding decimal numeral
returns-else-signed c =
    rw c.if-signed.false (wrote_as c.put-else-signed.ensures refl)
