-- `put_exits` writes the keys, and as many blanks as the rest of the line has.
-- Assumes nothing.
use mathlib.Core.Path.{refl}
use Rattle.base_text.specs.Doc.{print}
use Rattle.base_text.proofs.Laws.{seq, wrote_as}
use Rattle.call_pages.proofs.Blanks.{one_key, two_keys}
use Rattle.call_pages.proofs.lines.put_exits.Goals as goal

pub returns-in-None : goal.returns-in-None
unfolding print
returns-in-None c =
    rw c.in-None.is (wrote_as c.put.ensures refl)

pub returns-in-One : goal.returns-in-One
returns-in-One c =
    rw c.in-One.is
    (wrote_as (seq c.put_hex8-p.ensures c.put-in-One.ensures) (one_key _))

pub returns-in-Two : goal.returns-in-Two
returns-in-Two c =
    rw c.in-Two.is
    (wrote_as (seq c.put_hex8-p-in-Two.ensures
    (seq c.put_then_hex8-q.ensures c.put-in-Two.ensures))
    (two_keys _ _))
