-- Steps: the answers of the calls for units and for lengths, once the work numbers hold the plan.
use Rattle.std.specs.Prelude.{ℕ, ◌≡◌, List, [], ◌∷◌, length, Result}
use Rattle.file_blocks.specs.Parse.{blocks_of}
use Rattle.call_frame.specs.Frame.{settle}
use Rattle.call_frame.specs.declared.refusal.Refusal.{Refusal}
use Rattle.call_frame.specs.Refusal.{answer_of}
use Rattle.call_units.specs.declared.units.Asked.{Asked}
use Rattle.call_units.specs.declared.units.FrontValues.{FrontValues}
use Rattle.call_units.specs.declared.lengths.LengthsValues.{LengthsValues}
use Rattle.call_units.specs.Calls.{asks_units, asks_lengths}

-- an answer, and the text and the lengths that it leaves, are those of the call for units, whatever
-- becomes of the work numbers
abbrev pub AnswersUnits : Asked → List ℕ → Result FrontValues Refusal → List ℕ → List ℕ
    → List ℕ → List ℕ → Type 0
AnswersUnits asked f r text lengths text' lengths' = (work : List ℕ)
    → record { answer = answer_of r; work = work; results = text' ∷ lengths' ∷ [] }
    ≡ settle ((asks_units asked).own (blocks_of f) (length text ∷ length lengths ∷ [])) work
    (text ∷ lengths ∷ [])

-- the same of the call for lengths
abbrev pub AnswersLengths : Asked → List ℕ → Result LengthsValues Refusal → List ℕ → List ℕ → Type 0
AnswersLengths asked f r lengths lengths' = (work : List ℕ)
    → record { answer = answer_of r; work = work; results = lengths' ∷ [] }
    ≡ settle ((asks_lengths asked).own (blocks_of f) (length lengths ∷ [])) work (lengths ∷ [])
