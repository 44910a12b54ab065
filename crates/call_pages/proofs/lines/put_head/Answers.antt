-- `put_head` writes the head of a page.
-- Assumes nothing.
use mathlib.Core.Path.{refl}
use Rattle.base_text.proofs.Laws.{seq, wrote_as}
use Rattle.call_pages.proofs.lines.put_head.Goals as goal

pub returns : goal.returns
returns c =
    wrote_as (seq c.put_right-p.ensures c.put.ensures) refl
