-- `mem::put_base_line` meets its contract: what its calls write, one after another.
-- Assumes nothing.
use Rattle.std.proofs.Common.{refl}
use Rattle.base_text.proofs.Laws.{seq, wrote_as}
use Rattle.emit_mem.proofs.mem.put_base_line.Goals as goal

pub returns : goal.returns
returns c =
    wrote_as (seq c.put-p.ensures (seq c.put_base-q.ensures c.put.ensures)) refl
