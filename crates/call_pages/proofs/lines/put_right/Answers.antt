-- `put_right` counts the digits, and writes the blanks that the field has before them.
-- Assumes nothing.
use native.Mathlib.Omega.{arith}
use Rattle.base_text.proofs.Laws.{seq, wrote_as}
use Rattle.call_pages.proofs.Blanks.{right_some, right_none}
use Rattle.call_pages.proofs.lines.put_right.Goals as goal

pub returns-then-width-digits : goal.returns-then-width-digits
returns-then-width-digits c =
    let a = c.args in
    wrote_as c.put_dec.ensures
    (right_none a.width a.n _ c.put_dec-digits.ensures.next (omega arith))

pub returns : goal.returns
returns c =
    let a = c.args in
    wrote_as (seq c.put_spaces-p.ensures c.put_dec-2.ensures)
    (right_some a.width a.n _ c.put_dec-digits.ensures.next)
