-- `emit_alu::logical::put_one` meets its contract: what its calls write, one after another. Assumes
-- nothing.
use mathlib.Core.Path.{refl}
use Rattle.base_text.proofs.Laws.{seq, wrote_as}
use Rattle.emit_alu.proofs.logical.put_one.Goals as goal

pub returns : goal.returns
returns c =
    wrote_as (seq c.put-p.ensures
    (seq c.put_op2_value-q.ensures
    (seq c.put-v.ensures c.put_logical_rest.ensures))) refl
