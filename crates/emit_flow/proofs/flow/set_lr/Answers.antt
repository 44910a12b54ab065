-- `emit_flow::flow::set_lr` meets its contract: what its calls write, one after another. Assumes
-- nothing.
use Rattle.emit_flow.proofs.Pieces.{lr_set}
use Rattle.base_text.proofs.Laws.{seq, wrote_as}
use Rattle.emit_flow.proofs.flow.set_lr.Goals as goal

pub returns : goal.returns
returns c =
    wrote_as (seq c.put_then_hex8-p.ensures c.put.ensures) (lr_set _)
