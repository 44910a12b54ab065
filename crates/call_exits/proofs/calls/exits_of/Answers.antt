-- By what opening tells of the file, and what is found of the block.
-- Assumes nothing.
use Rattle.std.proofs.Common.{◌≡◌, ℕ, List, [], refl, ap, ◌∙◌}
use Rattle.std.proofs.Math.Option as maybe
use Rattle.std.proofs.lemmas.Result.{err_from_is_err_and}
use Rattle.std.specs.Prelude.{Option, Some, None}
use Rattle.std.specs.Option.{ok_or}
use Rattle.plan_exits.specs.declared.exits.Exits.{Exits}
use Rattle.plan_exits.specs.Exits.{keys_of}
use Rattle.plan_exits.specs.Found.{found_keys}
use Rattle.call_frame.specs.declared.refusal.Refusal.{Refusal}
use Rattle.call_frame.specs.Frame.{Outcome, makes, settle, if_found}
use Rattle.call_frame.specs.Refusal.{answer_by}
use Rattle.call_frame.proofs.Opening.{refused_call, open_call}
use Rattle.call_exits.specs.Calls.{asks_exits}
use Rattle.call_exits.proofs.calls.exits_of.Goals as goal

-- what is left by what is found
abbrev found : List ℕ → maybe.Option (List ℕ) → Outcome (List ℕ)
found work o = settle (if_found (λ (ks : List ℕ). makes ks []) o) work []

-- which is what the code answers
answered : (work : List ℕ) (o : Option Exits)
    → answer_by keys_of (ok_or o Refusal.NotFound) ≡ (found work (found_keys o)).answer
answered work (Some e) = refl
answered work None = refl

pub returns-in_err-open_file : goal.returns-in_err-open_file
returns-in_err-open_file c =
    let p = err_from_is_err_and c.from_residual.result c.from_residual.ensures.1 in record {
      answer = rw p.1
          (ap (λ (l : Outcome (List ℕ)). l.answer)
          (refused_call (asks_exits _) [] [] _ p.0 (rw p.2 c.in_err-open_file.ensures.refused)));
    }

pub returns : goal.returns
returns c =
    record {
      answer = let o = c.in_ok-open_file.ensures.open in
          rw c.ok_or.ensures.value
          (answered _ c.block_exits.result
          ∙ ap (λ (l : Outcome (List ℕ)). l.answer)
          (ap (found _) (c.block_exits.ensures o.accepted) ∙ open_call (asks_exits _) [] [] _ _ o));
    }
