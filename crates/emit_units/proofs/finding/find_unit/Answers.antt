-- The unit is the first of the groups from the row found on.
-- Assumes nothing.
use Rattle.file_blocks.specs.Parse.{blocks_of}
use Rattle.base_hash.specs.Fnv.{hash_multiplier}
use Rattle.lower_units.specs.Units.{units}
use Rattle.emit_units.specs.Units.{StartWithin, IsFoundStart, IsFoundUnit}
use Rattle.emit_units.proofs.Cuts.{none_at, starts_unit}
use Rattle.emit_units.proofs.finding.find_unit.Goals as goal

pub returns-in_err-p : goal.returns-in_err-p
unfolding IsFoundUnit IsFoundStart
returns-in_err-p c = λ limit ready.
    let a = c.args in
    rw c.from_residual.ensures
    (none_at (units hash_multiplier limit a.max (blocks_of a.file.now)) a.k
    (c.in_err-p.ensures.start limit ready))

pub measure_unit-requires : goal.measure_unit-requires
unfolding StartWithin
measure_unit-requires c = record {
  has_room = (c.requires.has_room, c.in_ok-p.ensures.within);
  accepted = c.requires.accepted;
}

pub returns : goal.returns
unfolding IsFoundUnit IsFoundStart
returns c = λ limit ready.
    let s = c.in_ok-p.ensures.start limit ready in
    starts_unit ready.accepted s
    (c.measure_unit.ensures.unit limit s.group ready s.within s.here)
