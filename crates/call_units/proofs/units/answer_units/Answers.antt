-- One law for each of the three answers.
-- Assumes nothing.
use mathlib.Core.Path.{subst}
use native.Mathlib.Omega.{arith}
use Rattle.file_blocks.proofs.Accepted.{few_blocks}
use Rattle.emit_units.specs.Units.{StartsAt, StartWithin, IsFoundStart}
use Rattle.call_units.proofs.Answers.{units_9, units-10, units-made}
use Rattle.call_units.proofs.units.answer_units.Goals as goal

pub find_start-requires : goal.find_start-requires
find_start-requires c = record { has_room = (c.requires.room, omega (arith, few_blocks _ _ c.requires.accepted, c.requires.all), c.requires.all); accepted = c.requires.accepted }

pub returns-in_default : goal.returns-in_default
unfolding IsFoundStart
returns-in_default c =
    record {
      answer = let a = c.args in
          units_9 a.asked a.file.now _ _
          (subst (IsFoundStart a.file.now a.asked.limit a.asked.max a.asked.first)
          c.in_default.is
          (c.find_start.ensures.start a.asked.limit c.requires));
    }

pub put_units-front-requires : goal.put_units-front-requires
unfolding StartWithin
put_units-front-requires c = record {
  has_room = (
    (c.requires.room, omega (arith, few_blocks _ _ c.requires.accepted, c.requires.all), c.requires.all),
    subst (StartWithin c.args.n) c.in-Some.is c.find_start.ensures.within,
  );
  accepted = c.requires.accepted;
}

pub returns-then-front-eq0 : goal.returns-then-front-eq0
unfolding IsFoundStart
returns-then-front-eq0 c =
    record {
      answer = let a = c.args in
          let s : StartsAt a.file.now a.asked.limit a.asked.max a.asked.first _ =
          subst (IsFoundStart a.file.now a.asked.limit a.asked.max a.asked.first)
          c.in-Some.is (c.find_start.ensures.start a.asked.limit c.requires) in
          units-10 a.asked a.file.now _ _ s
          (c.put_units-front.ensures a.asked.limit a.asked.first c.requires s) (omega arith);
    }

pub returns : goal.returns
unfolding IsFoundStart
returns c =
    record {
      answer = let a = c.args in
          let s : StartsAt a.file.now a.asked.limit a.asked.max a.asked.first _ =
          subst (IsFoundStart a.file.now a.asked.limit a.asked.max a.asked.first)
          c.in-Some.is (c.find_start.ensures.start a.asked.limit c.requires) in
          units-made a.asked a.file.now _ _ s
          (c.put_units-front.ensures a.asked.limit a.asked.first c.requires s) (omega arith);
    }
