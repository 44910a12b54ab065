-- By what opening tells of the file; the claims hold of every file.
-- Assumes nothing.
use Rattle.std.proofs.Common.{[], ◌∷◌}
use Rattle.call_frame.proofs.Opening.{refused_on}
use Rattle.claim_reasons.proofs.Claims.{reason_claims}
use Rattle.call_reasons.specs.Calls.{asks_reason}
use Rattle.call_reasons.proofs.reason.reason_of.Goals as goal

pub returns-in_err-open : goal.returns-in_err-open
returns-in_err-open c =
    let a = c.args in record {
      answer = refused_on (asks_reason a.k) [] (_ ∷ []) _ _ c.in_err-open.ensures.refused _ c.from_residual.ensures.1;
      claims = reason_claims _;
    }

pub returns : goal.returns
returns c = record { answer = c.make_reason.ensures.answer; claims = reason_claims _ }
