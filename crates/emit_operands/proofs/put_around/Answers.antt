-- `emit_operands::put_around` meets its contract: what its calls write, one after another. Assumes
-- nothing.
use mathlib.Core.Path.{refl}
use Rattle.base_text.proofs.Laws.{seq, wrote_as}
use Rattle.emit_operands.proofs.put_around.Goals as goal

pub returns : goal.returns
returns c =
    wrote_as (seq c.put-p.ensures (seq c.put_reg-q.ensures c.put.ensures)) refl
