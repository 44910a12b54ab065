-- `emit_flow::flow::set_pc` meets its contract: what its calls write, one after another. Assumes
-- nothing.
use Rattle.emit_flow.proofs.Pieces.{pc_set}
use Rattle.base_text.proofs.Laws.{seq, wrote_as}
use Rattle.emit_flow.proofs.flow.set_pc.Goals as goal

pub returns : goal.returns
returns c =
    wrote_as (seq c.put_then_hex8-p.ensures c.put.ensures) (pc_set _)
