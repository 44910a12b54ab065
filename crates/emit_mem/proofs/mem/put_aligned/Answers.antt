-- `mem::put_aligned` meets its contract: what its calls write, one after another.
-- Assumes nothing.
use Rattle.std.proofs.Common.{refl}
use Rattle.base_text.proofs.Laws.{seq, wrote_as}
use Rattle.emit_mem.proofs.mem.put_aligned.Goals as goal

pub returns : goal.returns
returns c =
    wrote_as (seq c.put_then_hex8-p.ensures c.put.ensures) refl
