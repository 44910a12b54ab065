-- By what opening tells of the file; the claims hold of every file.
-- Assumes nothing.
use Rattle.std.proofs.Common.{[], ◌∷◌}
use Rattle.call_frame.proofs.Opening.{refused_on}
use Rattle.call_pages.specs.Calls.{asks_pages}
use Rattle.call_pages.proofs.Claims.{page_claims}
use Rattle.call_pages.proofs.pages.pages_of.Goals as goal

pub returns-in_err-open : goal.returns-in_err-open
returns-in_err-open c =
    let a = c.args in record {
      answer = refused_on (asks_pages a.limit a.k) _ (_ ∷ []) _ _ c.in_err-open.ensures.refused _ c.from_residual.ensures.1;
      claims = page_claims _ _;
    }

pub returns : goal.returns
returns c = record { answer = c.make_pages.ensures.answer; claims = page_claims _ _ }
