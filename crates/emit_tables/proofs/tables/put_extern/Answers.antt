-- `emit_tables::tables::put_extern` meets its contract: what its calls write, one after another.
-- Assumes nothing.
use mathlib.Core.Path.{refl}
use Rattle.base_text.proofs.Laws.{seq, wrote_as}
use Rattle.emit_tables.proofs.tables.put_extern.Goals as goal

pub returns : goal.returns
returns c =
    wrote_as (seq c.put_then_key-p.ensures c.put.ensures) refl
