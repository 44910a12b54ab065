-- To be believed: what measuring and writing have to do with one another, and with the unit in one
-- call (document 02, request 3).
use Rattle.std.specs.Prelude.{ℕ, ◌≤◌, ◌≡◌, List, [], ◌∷◌}
use Rattle.lower_units.specs.Units.{UnitValues}
use Rattle.file_blocks.specs.Parse.{parse}
use Rattle.call_frame.specs.Answer.{Answer, refusal, value}
use Rattle.call_frame.specs.Frame.{Outcome}
use Rattle.call_answers.specs.declared.Told.{Told}
use Rattle.call_unit.specs.Calls.{told_of_unit, measure_call, write_call, unit_call}

-- an answer without its values
abbrev pub bare : {A : Type 0} → Answer A → Answer Unit
bare (refusal n i) = refusal n i
bare (value v) = value tt

-- what a call leaves, without the values of its answer
abbrev pub without_values : {A : Type 0} → Outcome A → Outcome Unit
without_values o =
    record { answer = bare o.answer; work = o.work; results = o.results }

-- of a file at a group limit and a wished size, whatever is lent
pub record MeasureThenWrite (limit max : ℕ) (f : List ℕ) : Type 0 where
  -- measuring tells of a unit what the one call answered
  pub tells : (k : ℕ) (v : UnitValues) (work text : List ℕ)
      → (unit_call limit max k (parse f) work text).answer ≡ value v
      → (measure_call limit max k (parse f) work).answer ≡ value (told_of_unit k v)
  -- refusals 10 and 11 belong to writing
  pub up_to9 : (k n i : ℕ) (work : List ℕ)
      → (measure_call limit max k (parse f) work).answer ≡ refusal n i → n ≤ 9
  -- writing by what was told of unit k leaves what the one call left
  pub as_before : (k : ℕ) (t : Told) (work work' text : List ℕ)
      → (measure_call limit max k (parse f) work).answer ≡ value t
      → write_call limit max t (parse f) work' text
      ≡ without_values (unit_call limit max k (parse f) work' text)
  -- where measuring is refused, so is writing, whatever is given: 1 to 9 come before 11 and 10
  pub refused_alike : (given : Told) (n i : ℕ) (work text : List ℕ)
      → (measure_call limit max given.unit (parse f) work).answer ≡ refusal n i
      → write_call limit max given (parse f) work text
      ≡ record {
        answer = refusal n i;
        work = (measure_call limit max given.unit (parse f) work).work;
        results = text ∷ [];
      }
  -- anything else that is given for a unit is refused with 11: the work numbers are left as by
  -- measuring, the text as it was
  pub caught : (given t : Told) (work text : List ℕ)
      → (measure_call limit max given.unit (parse f) work).answer ≡ value t
      → (given ≡ t → ⊥)
      → write_call limit max given (parse f) work text
      ≡ record {
        answer = refusal 11 0;
        work = (measure_call limit max given.unit (parse f) work).work;
        results = text ∷ [];
      }
