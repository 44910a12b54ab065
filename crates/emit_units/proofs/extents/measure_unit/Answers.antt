-- What is written to no bytes is measured.
-- Assumes nothing.
use Rattle.emit_units.proofs.extents.measure_unit.Goals as goal

pub returns : goal.returns
returns c =
    record { within = c.put_unit.ensures.within; unit = λ limit g ready h e. (c.put_unit.ensures.unit limit g ready h e).first }
