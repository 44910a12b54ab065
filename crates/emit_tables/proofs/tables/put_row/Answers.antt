-- `emit_tables::tables::put_row` meets its contract: what its calls write, one after another.
-- Assumes nothing.
use mathlib.Core.Path.{refl}
use Rattle.base_text.proofs.Laws.{seq, wrote_as}
use Rattle.emit_tables.proofs.tables.put_row.Goals as goal

pub returns : goal.returns
returns c =
    wrote_as (seq c.put_then_hex8-p.ensures (seq c.put_then_key-q.ensures c.put.ensures))
    refl
