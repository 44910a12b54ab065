-- `emit_operands::shifts::put_amount` meets its contract: what its calls write, one after another.
-- Assumes nothing.
use mathlib.Core.Path.{refl}
use Rattle.base_text.proofs.Laws.{seq, wrote_as}
use Rattle.emit_operands.proofs.shifts.put_amount.Goals as goal

pub returns : goal.returns
returns c =
    wrote_as (seq c.put_around-p.ensures (seq c.put_dec-q.ensures c.put.ensures)) refl
