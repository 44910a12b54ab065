-- One law for each sort of answer.
-- Assumes nothing.
use Prim.Native.Nat.{◌≤◌}
use lib.ListN.{length}
use Rattle.std.proofs.Common.{refl}
use Rattle.std.proofs.lemmas.Result.{err_from_is_err_and}
use mathlib.Core.Path.{subst}
use native.Mathlib.Omega.{arith}
use Rattle.file_blocks.proofs.Accepted.{few_blocks}
use Rattle.base_text.proofs.Laws.{whole}
use Rattle.plan_members.proofs.Places.{start_inside}
use Rattle.lower_units.specs.Units.{text_of}
use Rattle.emit_units.specs.Units.{IsUnit, IsFoundUnit}
use Rattle.call_unit.proofs.Answers.{write_none, write_refused, write_fits, write_made}
use Rattle.call_unit.proofs.write.answer_write.Goals as goal

pub find_unit-requires : goal.find_unit-requires
find_unit-requires c = record { has_room = (c.requires.room, omega (arith, few_blocks _ _ c.requires.accepted, c.requires.all), c.requires.all); accepted = c.requires.accepted }

pub returns-in_default : goal.returns-in_default
unfolding IsFoundUnit
returns-in_default c =
    record {
      answer = let a = c.args in
          write_none a.file.now a.limit a.max a.given _
          (subst (IsFoundUnit a.file.now a.limit a.max a.given.unit)
          c.in_default.is
          (c.find_unit.ensures a.limit c.requires));
    }

pub returns-in_err-answer_in : goal.returns-in_err-answer_in
unfolding IsFoundUnit
returns-in_err-answer_in c =
    let p = err_from_is_err_and c.from_residual.result c.from_residual.ensures.1 in
    record {
      answer = let a = c.args in
          let is : IsUnit a.file.now a.limit a.max a.given.unit _ =
          subst (IsFoundUnit a.file.now a.limit a.max a.given.unit) c.in-Some.is
          (c.find_unit.ensures a.limit c.requires) in
          rw (p.1, p.2)
          (write_refused a.file.now a.limit a.max a.given _ is _ c.told_of-found.ensures _
          c.in_err-answer_in.ensures _ refl);
    }

pub write_unit-requires : goal.write_unit-requires
unfolding IsFoundUnit
write_unit-requires c =
    let a = c.args in
    let is : IsUnit a.file.now a.limit a.max a.given.unit _ =
    subst (IsFoundUnit a.file.now a.limit a.max a.given.unit) c.in-Some.is
    (c.find_unit.ensures a.limit c.requires) in record {
      has_room = (
        (c.requires.room, omega (arith, few_blocks _ _ c.requires.accepted, c.requires.all), c.requires.all),
        omega (arith, is.at.here, start_inside c.requires is.at.group),
      );
      accepted = c.requires.accepted;
    }

pub returns : goal.returns
unfolding IsFoundUnit text_of
returns c =
    record {
      answer = let a = c.args in
          let is : IsUnit a.file.now a.limit a.max a.given.unit _ =
          subst (IsFoundUnit a.file.now a.limit a.max a.given.unit) c.in-Some.is
          (c.find_unit.ensures a.limit c.requires) in
          let fits : length (text_of is.unit.tree) ≤ length a.text.now =
          write_fits a.file.now a.limit a.max a.given a.text.now is _
          c.told_of-found.ensures _ c.in_ok-answer_in.ensures refl in
          write_made a.file.now a.limit a.max a.given _ is _
          c.told_of-found.ensures _ c.in_ok-answer_in.ensures refl _
          (whole (c.write_unit.ensures a.limit a.given.unit c.requires is) fits).0;
    }
