-- `transfers::put_stored` meets its contract: what its calls write, one after another.
-- Assumes nothing.
use Rattle.std.proofs.Common.{sym, refl, ◌∙◌, eq-eqb, ne_eqb}
use Rattle.base_text.proofs.Laws.{wrote_as}
use Rattle.emit_mem.proofs.transfers.put_stored.Goals as goal

pub returns-then-r-eq15 : goal.returns-then-r-eq15
returns-then-r-eq15 c =
    rw (eq-eqb _ _ c.if-r-eq15.true) (wrote_as c.put_stored_pc.ensures refl)

pub returns-then-stores_moved : goal.returns-then-stores_moved
returns-then-stores_moved c =
    rw (
      ne_eqb _ _ c.if-r-eq15.false,
      eq-eqb _ _ c.if-r-s.true,
      sym c.stores_moved.ensures ∙ c.if-stores_moved.true,
    )
    (wrote_as c.put_moved.ensures refl)

pub returns-then-r-s : goal.returns-then-r-s
returns-then-r-s c =
    rw (
      ne_eqb _ _ c.if-r-eq15.false,
      eq-eqb _ _ c.if-r-s.true,
      sym c.stores_moved.ensures ∙ c.if-stores_moved.false,
    )
    (wrote_as c.put.ensures refl)

pub returns : goal.returns
returns c =
    rw (ne_eqb _ _ c.if-r-eq15.false, ne_eqb _ _ c.if-r-s.false)
    (wrote_as c.put_place.ensures refl)
