-- The pieces of the line, one after the other.
-- Assumes nothing.
use Rattle.base_text.proofs.Laws.{seq, wrote_as}
use mathlib.Core.Path.{refl, sym}
use Rattle.list_program.proofs.put_refusal.Goals as goal

pub returns : goal.returns
returns c =
    rw (sym c.number.ensures, sym c.place.ensures)
    (wrote_as (seq c.put_then_dec-p.ensures (seq c.put_then_dec-q.ensures c.put.ensures)) refl)
