-- `put_line` writes a line.
-- Assumes nothing.
use mathlib.Core.Path.{refl}
use Rattle.base_text.proofs.Laws.{seq, wrote_as}
use Rattle.call_pages.proofs.lines.put_line.Goals as goal

pub returns : goal.returns
returns c =
    wrote_as (seq c.put_hex8-p.ensures
    (seq c.put-q.ensures
    (seq c.put_right-s.ensures
    (seq c.put-t.ensures
    (seq c.put_right-u.ensures (seq c.put-v.ensures c.put_exits.ensures))))))
    refl
