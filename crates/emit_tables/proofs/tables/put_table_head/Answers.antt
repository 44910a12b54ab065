-- `emit_tables::tables::put_table_head` meets its contract: what its calls write, one after
-- another. Assumes nothing.
use mathlib.Core.Path.{refl}
use Rattle.base_text.proofs.Laws.{wrote_as}
use Rattle.emit_tables.proofs.tables.put_table_head.Goals as goal

pub returns : goal.returns
returns c =
    wrote_as c.put.ensures refl
