-- `block_mem::put_block_base` meets its contract: what its calls write, one after another.
-- Assumes nothing.
use Rattle.std.proofs.Common.{refl}
use Rattle.base_text.specs.Digits.{numeral}
use Rattle.base_text.specs.Doc.{decimal}
use Rattle.base_text.proofs.Laws.{seq, wrote_as}
use Rattle.emit_mem.proofs.block_mem.put_block_base.Goals as goal

pub returns : goal.returns
unfolding decimal numeral
returns c =
    wrote_as (seq c.put_then_dec-p.ensures
    (seq c.put-q.ensures (seq c.put_start-s.ensures c.put.ensures))) refl
