-- Steps: the answers of the calls for a unit as the code makes them and hands them over. What the
-- calls answer is said in call_unit.
use Rattle.std.specs.Prelude.{ℕ, cond, List, [], ◌∷◌, ltb, Result, Ok, Err}
use Rattle.call_frame.specs.declared.refusal.Refusal.{Refusal}
use Rattle.call_frame.specs.Numbers.{numbers_of}
use Rattle.call_frame.specs.Refusal.{answer_of}
use Rattle.call_answers.specs.declared.Told.{Told}
use Rattle.call_answers.specs.Values.{same_values}

-- 11 where a value that is given is not the one that is found; 10 where there is room for fewer
-- bytes than the text has
abbrev pub answer_in : Told → Told → ℕ → Result Unit Refusal
answer_in given found room =
    cond (same_values given found)
    (cond (ltb room found.length) (Err Refusal.ShortResult) (Ok tt))
    (Err Refusal.Differs)

-- an answer of measuring in the order of the interface: after the numbers of every answer the
-- unit's number, the length, the blocks done and the last mark
abbrev pub measure_numbers_of : Result Told Refusal → List ℕ
measure_numbers_of r =
    numbers_of 4 (λ (t : Told). t.unit ∷ t.length ∷ t.done ∷ t.last ∷ []) (answer_of r)

-- an answer of writing likewise, without values
abbrev pub write_numbers_of : Result Unit Refusal → List ℕ
write_numbers_of r = numbers_of 0 (λ (written : Unit). []) (answer_of r)
