-- By what opening tells of the file.
-- Assumes nothing.
use Rattle.std.proofs.Common.{[], ◌∷◌}
use Rattle.call_frame.proofs.Opening.{refused_on}
use Rattle.call_listing.specs.Calls.{asks_listing}
use Rattle.call_listing.proofs.calls.listing_of.Goals as goal

pub returns-in_err-open : goal.returns-in_err-open
returns-in_err-open c =
    let a = c.args in record {
      answer = refused_on (asks_listing a.limit) _ (_ ∷ []) _ _ c.in_err-open.ensures.refused _ c.from_residual.ensures.1;
    }
