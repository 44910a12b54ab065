-- One law for each of the two answers.
-- Assumes nothing.
use mathlib.Core.Path.{subst}
use native.Mathlib.Omega.{arith}
use Rattle.file_blocks.proofs.Accepted.{few_blocks}
use Rattle.emit_units.specs.Units.{IsUnit, IsFoundUnit}
use Rattle.call_unit.proofs.Answers.{measure_none, measure_told}
use Rattle.call_unit.proofs.measure.answer_measure.Goals as goal

pub find_unit-requires : goal.find_unit-requires
find_unit-requires c = record { has_room = (c.requires.room, omega (arith, few_blocks _ _ c.requires.accepted, c.requires.all), c.requires.all); accepted = c.requires.accepted }

pub returns-in_default : goal.returns-in_default
unfolding IsFoundUnit
returns-in_default c =
    record {
      answer = let a = c.args in
          measure_none a.file.now a.limit a.max a.k
          (subst (IsFoundUnit a.file.now a.limit a.max a.k) c.in_default.is
          (c.find_unit.ensures a.limit c.requires));
    }

pub returns : goal.returns
unfolding IsFoundUnit
returns c =
    record {
      answer = let a = c.args in
          let is : IsUnit a.file.now a.limit a.max a.k _ =
          subst (IsFoundUnit a.file.now a.limit a.max a.k) c.in-Some.is
          (c.find_unit.ensures a.limit c.requires) in
          measure_told a.file.now a.limit a.max a.k is _ c.told_of.ensures;
    }
