-- `emit_tables::heads::put_member_end` meets its contract: what its calls write, one after another.
-- Assumes nothing.
use mathlib.Core.Path.{refl}
use Rattle.base_text.proofs.Laws.{wrote_as}
use Rattle.emit_tables.proofs.heads.put_member_end.Goals as goal

pub returns : goal.returns
returns c =
    wrote_as c.put.ensures refl
