-- `transfers::put_load` meets its contract: what its calls write, one after another.
-- Assumes nothing.
use Rattle.std.proofs.Common.{refl}
use Rattle.base_text.specs.Digits.{numeral}
use Rattle.base_text.specs.Doc.{decimal}
use Rattle.base_text.proofs.Laws.{seq, wrote_as}
use Rattle.emit_mem.proofs.transfers.put_load.Goals as goal

pub returns : goal.returns
unfolding decimal numeral
returns c =
    wrote_as (seq c.put_target-p.ensures c.put.ensures) refl
