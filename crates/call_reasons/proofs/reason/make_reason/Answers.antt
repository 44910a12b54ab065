-- One law for each of the three answers.
-- Assumes nothing.
use mathlib.Core.List.{[], ◌∷◌}
use mathlib.Core.Path.{subst}
use native.Mathlib.Omega.{arith}
use Rattle.file_blocks.specs.Parse.{blocks_of}
use Rattle.emit_sentences.specs.Steps.{said_by}
use Rattle.emit_sentences.proofs.Short.{said_short}
use Rattle.call_frame.proofs.Opening.{settled_call}
use Rattle.call_reasons.specs.Calls.{asks_reason}
use Rattle.call_reasons.specs.Steps.{IsSaid}
use Rattle.call_reasons.proofs.Answers.{cleared_none, reason_9, reason_10, reason_made}
use Rattle.call_reasons.proofs.reason.make_reason.Goals as goal

pub find_said-requires : goal.find_said-requires
find_said-requires c = c.requires

pub returns-in_default : goal.returns-in_default
unfolding IsSaid
returns-in_default c =
    record {
      answer = let a = c.args in
          settled_call (asks_reason a.k) [] (_ ∷ []) _ _ c.requires [] (cleared_none a.n) _
          (reason_9 (blocks_of a.file.now) a.k _
          (subst (IsSaid a.file.now a.k) c.in_default.is c.find_said.ensures));
    }

pub returns-then-text-length : goal.returns-then-text-length
unfolding IsSaid
returns-then-text-length c =
    record {
      answer = let a = c.args in
          let told = subst (IsSaid a.file.now a.k) c.in-Some.is
          c.find_said.ensures in
          settled_call (asks_reason a.k) [] (_ ∷ []) _ _ c.requires [] (cleared_none a.n) _
          (reason_10 (blocks_of a.file.now) a.k _ told.0 told.1
          (omega (arith, c.put_said-length.ensures.next)));
    }

pub returns : goal.returns
unfolding IsSaid
returns c =
    record {
      answer = let a = c.args in
          let told = subst (IsSaid a.file.now a.k) c.in-Some.is
          c.find_said.ensures in
          settled_call (asks_reason a.k) [] (_ ∷ []) _ _ c.requires [] (cleared_none a.n) _
          (reason_made (blocks_of a.file.now) a.k _ told.0 told.1
          (omega (arith, c.put_said-length.ensures.next, said_short (said_by c.in-Some.said)))
          (omega arith) c.put_said.ensures);
    }
