-- `emit_alu::sum::put_sum_rest` meets its contract: what its calls write, one after another.
-- Assumes nothing.
use mathlib.Core.Path.{refl}
use Rattle.base_text.proofs.Laws.{seq, wrote_as}
use Rattle.emit_alu.proofs.sum.put_sum_rest.Goals as goal

pub returns : goal.returns
returns c =
    wrote_as (seq c.put_between-p.ensures
    (seq c.put-q.ensures (seq c.put_after-v.ensures c.put_result.ensures))) refl
