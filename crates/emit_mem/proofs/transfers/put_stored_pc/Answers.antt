-- `transfers::put_stored_pc` meets its contract: what its calls write, one after another.
-- Assumes nothing.
use Rattle.std.proofs.Common.{sym, refl}
use Rattle.base_text.proofs.Laws.{wrote_as}
use Rattle.emit_mem.proofs.transfers.put_stored_pc.Goals as goal

pub returns : goal.returns
returns c =
    rw (sym c.pc_value.ensures, sym c.wrapping_add_u32-pc.ensures.value)
    (wrote_as c.put_word.ensures refl)
