-- `block_mem::put_write_back` meets its contract: what its calls write, one after another.
-- Assumes nothing.
use Rattle.std.proofs.Common.{refl}
use Rattle.base_text.proofs.Laws.{seq, wrote_as}
use Rattle.emit_mem.proofs.block_mem.put_write_back.Goals as goal

pub returns : goal.returns
returns c =
    wrote_as (seq c.put_then_dec-p.ensures
    (seq c.put-q.ensures (seq c.put_moved-s.ensures c.put.ensures))) refl
