-- `emit_alu::logical::put_two` meets its contract: what its calls write, one after another. Assumes
-- nothing.
use mathlib.Core.Path.{refl}
use Rattle.base_text.proofs.Laws.{seq, wrote_as}
use Rattle.emit_alu.proofs.logical.put_two.Goals as goal

pub returns : goal.returns
returns c =
    wrote_as (seq c.put-p.ensures
    (seq c.put_reg-q.ensures
    (seq c.put-v.ensures
    (seq c.put_op2_value-w.ensures
    (seq c.put-x.ensures c.put_logical_rest.ensures))))) refl
