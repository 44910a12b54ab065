-- `put_exits` writes the exits of a line.
-- Assumes nothing.
use Rattle.std.proofs.Common.{refl}
use Rattle.base_text.proofs.Laws.{seq, wrote_as}
use Rattle.call_listing.proofs.lines.put_exits.Goals as goal

pub returns-in-None : goal.returns-in-None
returns-in-None c =
    rw c.in-None.is
    (wrote_as c.put.ensures refl)

pub returns-in-One : goal.returns-in-One
returns-in-One c =
    rw c.in-One.is
    (wrote_as c.put_then_hex8.ensures refl)

pub returns-in-Two : goal.returns-in-Two
returns-in-Two c =
    rw c.in-Two.is
    (wrote_as
    (seq c.put_then_hex8-p.ensures
    c.put_then_hex8-in-Two.ensures) refl)
