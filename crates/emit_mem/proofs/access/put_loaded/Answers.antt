-- `access::put_loaded` meets its contract: what its calls write, one after another.
-- Assumes nothing.
use Rattle.std.proofs.Common.{refl}
use Rattle.base_text.specs.Digits.{numeral}
use Rattle.base_text.specs.Doc.{decimal}
use Rattle.base_text.proofs.Laws.{wrote_as}
use Rattle.emit_mem.proofs.access.put_loaded.Goals as goal

pub returns-in-Byte : goal.returns-in-Byte
unfolding decimal numeral
returns-in-Byte c =
    rw c.in-Byte.is (wrote_as c.put_byte.ensures refl)

pub returns-in-Half : goal.returns-in-Half
unfolding decimal numeral
returns-in-Half c =
    rw c.in-Half.is (wrote_as c.put_half.ensures refl)

pub returns-in-Word : goal.returns-in-Word
unfolding decimal numeral
returns-in-Word c =
    rw c.in-Word.is (wrote_as c.put.ensures refl)
