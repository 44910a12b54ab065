-- `emit_flow::flow::put_gate` meets its contract: what its calls write, one after another. Assumes
-- nothing.
use mathlib.Core.Path.{refl}
use Rattle.base_text.proofs.Laws.{seq, wrote_as}
use Rattle.emit_flow.proofs.flow.put_gate.Goals as goal

pub returns : goal.returns
returns c =
    wrote_as (seq c.put_indent-p.ensures (seq c.put_then_hex8-q.ensures c.put.ensures))
    refl
