-- `put_line` writes a line.
-- Assumes nothing.
use Rattle.std.proofs.Common.{refl}
use Rattle.base_text.proofs.Laws.{seq, wrote_as}
use Rattle.call_listing.proofs.lines.put_line.Goals as goal

pub returns : goal.returns
returns c =
    wrote_as (seq
    c.put_hex8-p.ensures
    (seq c.put_then_dec-q.ensures
    (seq c.put_exits-s.ensures
    c.put.ensures))) refl
