-- `emit_flow::flow::put_goto` meets its contract: what its calls write, one after another. Assumes
-- nothing.
use mathlib.Core.Path.{refl}
use Rattle.lower_units.specs.Block.{goto_code}
use Rattle.base_text.proofs.Laws.{seq, wrote_as}
use Rattle.emit_flow.proofs.flow.put_goto.Goals as goal

pub returns : goal.returns
unfolding goto_code
returns c =
    wrote_as (seq c.put_indent-p.ensures (seq c.put_then_key-q.ensures c.put.ensures))
    refl
