-- `emit_flow::keys::put_then_key` meets its contract: what its calls write, one after another.
-- Assumes nothing.
use mathlib.Core.Path.{refl}
use Rattle.base_text.proofs.Laws.{seq, wrote_as}
use Rattle.emit_flow.proofs.keys.put_then_key.Goals as goal

pub returns : goal.returns
returns c =
    wrote_as (seq c.put-p.ensures c.put_key.ensures) refl
