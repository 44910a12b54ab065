-- `mem::put_base` meets its contract: what its calls write, one after another.
-- Assumes nothing.
use Rattle.std.proofs.Common.{sym, refl, eq-eqb, ne_eqb}
use Rattle.base_text.proofs.Laws.{wrote_as}
use Rattle.emit_mem.proofs.mem.put_base.Goals as goal

pub returns-then-rn-eq-PC : goal.returns-then-rn-eq-PC
returns-then-rn-eq-PC c =
    rw (sym c.pc_value-pc.ensures, c.if-thumb.true, eq-eqb _ _ c.if-rn-eq-PC.true)
    (wrote_as c.put_aligned.ensures refl)

pub returns-then-thumb : goal.returns-then-thumb
returns-then-thumb c =
    rw (sym c.pc_value-pc.ensures, c.if-thumb.true, ne_eqb _ _ c.if-rn-eq-PC.false)
    (wrote_as c.put_place.ensures refl)

pub returns : goal.returns
returns c =
    rw (sym c.pc_value-pc.ensures, c.if-thumb.false) (wrote_as c.put_reg.ensures refl)
