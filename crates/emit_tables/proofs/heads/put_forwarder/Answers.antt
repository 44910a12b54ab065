-- `emit_tables::heads::put_forwarder` meets its contract: what its calls write, one after another.
-- Assumes nothing.
use mathlib.Core.Path.{refl}
use Rattle.base_text.proofs.Laws.{seq, wrote_as}
use Rattle.emit_tables.proofs.heads.put_forwarder.Goals as goal

pub returns : goal.returns
returns c =
    wrote_as (seq c.put_then_key-p.ensures
    (seq c.put_then_hex8-q.ensures (seq c.put_then_dec-s.ensures c.put.ensures)))
    refl
