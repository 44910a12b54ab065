-- Steps: what the calls for the sentence of one instruction and for those from one on answer and
-- leave, as it is compared with a vector.
use Rattle.std.specs.Prelude.{ℕ, List, [], ◌∷◌, take, drop}
use Rattle.file_blocks.specs.Parse.{Parsed, parse}
use Rattle.call_frame.specs.Numbers.{Handed}
use Rattle.call_reasons.specs.Calls.{reason_call, reason_numbers, reasons_call, reasons_numbers}
use Rattle.case_lent.specs.Left.{with_rest}
use Rattle.case_reasons.specs.declared.asked.Asked.{Asked}
use Rattle.case_reasons.specs.declared.asked.Sentences.{Sentences}
use Rattle.case_reasons.specs.declared.asked.Sentences.TheVariants.{One, From}

-- numbers with 0 after the first two
abbrev pub without_next : List ℕ → List ℕ
without_next [] = []
without_next (n ∷ []) = n ∷ []
without_next (n ∷ i ∷ values) = n ∷ i ∷ 0 ∷ values

-- what the call for one sentence hands over, with 0 for the next instruction, which it does not say
abbrev pub one_reason : Handed → Handed
one_reason h =
    record { numbers = without_next h.numbers; work = h.work; results = h.results }

-- what the call for sentences hands over, or the call for one
abbrev pub hands_over : Sentences → (k : ℕ) → Parsed → (text : List ℕ) → Handed
hands_over From k p text = reasons_numbers (reasons_call k p text)
hands_over One k p text = one_reason (reason_numbers (reason_call k p text))

-- what a call answers, and what stands afterwards in all text of which it was lent a front
abbrev pub reason_call_leaves : Asked → (file text : List ℕ) → Handed
reason_call_leaves asked file text =
    with_rest (hands_over asked.sentences asked.instruction (parse file) (take asked.text text)) []
    (drop asked.text text)
