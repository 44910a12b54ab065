-- `emit_alu::mul::put_long_product` meets its contract: what its calls write, one after another.
-- Assumes nothing.
use mathlib.Core.Path.{refl}
use Rattle.base_text.proofs.Laws.{seq, wrote_as}
use Rattle.emit_alu.proofs.mul.put_long_product.Goals as goal

pub returns : goal.returns
returns c =
    wrote_as (seq c.put-p.ensures
    (seq c.put_wide-q.ensures
    (seq c.put-v.ensures (seq c.put_wide-w.ensures c.put.ensures)))) refl
