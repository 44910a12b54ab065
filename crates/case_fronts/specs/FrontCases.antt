-- Steps: what the calls for the units from one on and for their lengths answer and leave, as it is
-- compared with a vector.
use Rattle.std.specs.Prelude.{ℕ, Bool, ◌&&◌, List, [], ◌∷◌, ◌++◌, take, drop}
use Rattle.file_blocks.specs.Parse.{parse}
use Rattle.plan_groups.specs.Limit.{part_limit}
use Rattle.call_frame.specs.Numbers.{Handed}
use Rattle.call_units.specs.Calls.{units_call, units_numbers, lengths_call, lengths_numbers}
use Rattle.case_io.specs.Same.{same_numbers}
use Rattle.case_fronts.specs.declared.Asked.{Asked}

-- the first of the results of a call
abbrev pub first_of : List (List ℕ) → List ℕ
first_of [] = []
first_of (r ∷ results) = r

-- the second of them
abbrev pub second_of : List (List ℕ) → List ℕ
second_of [] = []
second_of (r ∷ results) = first_of results

-- what the call for units answers, and what stands afterwards in all work numbers, all text and all
-- places of which it was lent a front
pub record UnitsLeft : Type 0 where
  pub numbers : List ℕ
  pub work : List ℕ
  pub text : List ℕ
  pub lengths : List ℕ

-- the same of the call for lengths
pub record LengthsLeft : Type 0 where
  pub numbers : List ℕ
  pub work : List ℕ
  pub lengths : List ℕ

-- with more work numbers, more text and more places after what was lent
abbrev pub with_rest : Handed → (work text lengths : List ℕ) → UnitsLeft
with_rest h work text lengths =
    record {
      numbers = h.numbers;
      work = h.work ++ work;
      text = first_of h.results ++ text;
      lengths = second_of h.results ++ lengths;
    }

-- with more work numbers and more places
abbrev pub with_places : Handed → (work lengths : List ℕ) → LengthsLeft
with_places h work lengths =
    record {
      numbers = h.numbers;
      work = h.work ++ work;
      lengths = first_of h.results ++ lengths;
    }

-- what the call for units leaves
abbrev pub units_call_leaves : Asked → (file work text lengths : List ℕ) → UnitsLeft
units_call_leaves asked file work text lengths =
    with_rest
    (units_numbers
    (units_call (record { limit = part_limit; max = asked.size; first = asked.first })
    (parse file) (take asked.work work) (take asked.text text)
    (take asked.lengths lengths)))
    (drop asked.work work) (drop asked.text text) (drop asked.lengths lengths)

-- what the call for lengths leaves
abbrev pub lengths_call_leaves : Asked → (file work lengths : List ℕ) → LengthsLeft
lengths_call_leaves asked file work lengths =
    with_places
    (lengths_numbers
    (lengths_call (record { limit = part_limit; max = asked.size; first = asked.first })
    (parse file) (take asked.work work) (take asked.lengths lengths)))
    (drop asked.work work) (drop asked.lengths lengths)

-- the expected answer, work numbers, text and lengths, all of them
abbrev pub same_front : (answer work text lengths : List ℕ) → UnitsLeft → Bool
same_front answer work text lengths left =
    same_numbers answer left.numbers
    && (same_numbers work left.work
    && (same_numbers text left.text && same_numbers lengths left.lengths))

-- the expected answer, work numbers and lengths
abbrev pub same_lengths : (answer work lengths : List ℕ) → LengthsLeft → Bool
same_lengths answer work lengths left =
    same_numbers answer left.numbers
    && (same_numbers work left.work && same_numbers lengths left.lengths)
