-- By what opening tells of the file: the numbers of its refusal, or its counts.
-- Assumes nothing.
use Rattle.std.proofs.Common.{ℕ, [], ◌∷◌, ap, ap₂, ◌∙◌}
use Rattle.call_frame.specs.Frame.{Outcome}
use Rattle.file_blocks.specs.declared.refusal.Counts.{Counts}
use Rattle.call_frame.proofs.Opening.{block_number, refused_call, open_call}
use Rattle.call_check.specs.Calls.{asks_check, check_numbers}
use Rattle.call_check.proofs.check_numbers.Goals as goal

pub returns-in-Ok : goal.returns-in-Ok
returns-in-Ok c =
    record {
      answer =
          ap₂ (λ (b i : ℕ). 0 ∷ 0 ∷ b ∷ i ∷ []) (block_number _ _ _ _ _ c.in-Ok.ensures.open)
          c.in-Ok.ensures.counted
          ∙ ap (λ (l : Outcome Counts). check_numbers l.answer)
          (open_call asks_check [] [] _ _ c.in-Ok.ensures.open);
    }

pub returns-in-Err : goal.returns-in-Err
returns-in-Err c =
    record {
      answer =
          ap₂ (λ (n i : ℕ). n ∷ i ∷ 0 ∷ 0 ∷ []) c.number.ensures c.place.ensures
          ∙ ap (λ (l : Outcome Counts). check_numbers l.answer)
          (refused_call asks_check [] [] _ c.in-Err.refusal c.in-Err.ensures.refused);
    }
