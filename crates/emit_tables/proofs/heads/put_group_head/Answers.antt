-- `emit_tables::heads::put_group_head` meets its contract: what its calls write, one after another.
-- Assumes nothing.
use mathlib.Core.Path.{refl}
use Rattle.lower_units.specs.Units.{with_locals}
use Rattle.base_text.proofs.Laws.{seq, wrote_as}
use Rattle.emit_tables.proofs.heads.put_group_head.Goals as goal

pub returns : goal.returns
unfolding with_locals
returns c =
    wrote_as (seq c.put_then_hex8-p.ensures c.put.ensures) refl
