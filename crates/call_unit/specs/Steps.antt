-- Steps: the answers of the calls for a unit, once the work numbers hold the plan.
use Rattle.std.specs.Prelude.{ℕ, ◌≡◌, List, [], ◌∷◌, Result}
use Rattle.file_blocks.specs.Parse.{blocks_of}
use Rattle.call_frame.specs.Frame.{settle}
use Rattle.call_frame.specs.declared.refusal.Refusal.{Refusal}
use Rattle.call_frame.specs.Refusal.{answer_of}
use Rattle.call_answers.specs.declared.Told.{Told}
use Rattle.call_unit.specs.Calls.{asks_of_unit, measures, writes}

-- an answer is that of measuring unit k, whatever becomes of the work numbers
abbrev pub AnswersMeasure : ℕ → ℕ → ℕ → List ℕ → Result Told Refusal → Type 0
AnswersMeasure limit max k f r = (work : List ℕ)
    → record { answer = answer_of r; work = work; results = [] }
    ≡ settle ((asks_of_unit (measures k) limit max k).own (blocks_of f) []) work []

-- an answer, and the text that it leaves, are those of writing the unit of which t is given,
-- likewise
abbrev pub AnswersWrite : ℕ → ℕ → Told → List ℕ → Result Unit Refusal → List ℕ → List ℕ → Type 0
AnswersWrite limit max t f r text text' = (work : List ℕ)
    → record { answer = answer_of r; work = work; results = text' ∷ [] }
    ≡ settle ((asks_of_unit (writes t) limit max t.unit).own (blocks_of f) []) work (text ∷ [])
