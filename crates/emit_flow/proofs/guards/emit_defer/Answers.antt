-- `emit_flow::guards::emit_defer` meets its contract: what its calls write, one after another.
-- Assumes nothing.
use Rattle.emit_flow.proofs.Pieces.{alone}
use Rattle.base_text.proofs.Laws.{seq, wrote_as}
use Rattle.emit_flow.proofs.guards.emit_defer.Goals as goal

pub returns : goal.returns
returns c =
    λ ks b e. wrote_as (seq c.put_then_hex8-p.ensures c.put.ensures) (alone ks b _ e)
