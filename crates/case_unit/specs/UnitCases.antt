-- Steps: what the calls for a unit answer and leave, as it is compared with a vector.
use Rattle.std.specs.Prelude.{ℕ, Bool, ◌&&◌, List, ◌++◌, take, drop}
use Rattle.file_blocks.specs.Parse.{parse}
use Rattle.plan_groups.specs.Limit.{part_limit}
use Rattle.call_frame.specs.Numbers.{Handed}
use Rattle.call_answers.specs.declared.Told.{Told}
use Rattle.call_unit.specs.Calls.{measure_call, measure_numbers, write_call, write_numbers}
use Rattle.case_io.specs.Same.{same_numbers}
use Rattle.case_lent.specs.Left.{with_rest}

-- with more work numbers after those that were lent
abbrev pub with_numbers : Handed → List ℕ → Handed
with_numbers h work =
    record { numbers = h.numbers; work = h.work ++ work; results = h.results }

-- what measuring answers, and what stands afterwards in all work numbers of which it was lent a
-- front
abbrev pub measure_call_leaves : (max k w : ℕ) (file work : List ℕ) → Handed
measure_call_leaves max k w file work =
    with_numbers (measure_numbers (measure_call part_limit max k (parse file) (take w work)))
    (drop w work)

-- the expected answer and the expected work numbers, all of them
abbrev pub same_measured : (answer work : List ℕ) → Handed → Bool
same_measured answer work h = same_numbers answer h.numbers && same_numbers work h.work

-- what writing answers, and what stands afterwards in all work numbers and all text of which it was
-- lent a front
abbrev pub write_call_leaves : (max : ℕ) → Told → (w t : ℕ) (file work text : List ℕ) → Handed
write_call_leaves max given w t file work text =
    with_rest
    (write_numbers (write_call part_limit max given (parse file) (take w work) (take t text)))
    (drop w work) (drop t text)
