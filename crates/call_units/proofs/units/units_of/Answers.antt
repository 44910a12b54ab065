-- By what opening tells of the file; the claims hold of every file.
-- Assumes nothing.
use Rattle.std.proofs.Common.{[], ◌∷◌}
use Rattle.call_frame.proofs.Opening.{refused_on}
use Rattle.claim_units.proofs.Claims.{unit_claims}
use Rattle.call_units.specs.Calls.{asks_units}
use Rattle.call_units.proofs.units.units_of.Goals as goal

pub returns-in_err-open : goal.returns-in_err-open
returns-in_err-open c =
    let a = c.args in record {
      answer = refused_on (asks_units a.asked) _ (_ ∷ _ ∷ []) _ _ c.in_err-open.ensures.refused _ c.from_residual.ensures.1;
      claims = unit_claims _ _ _ _;
    }

pub returns : goal.returns
returns c = record { answer = c.emit_units.ensures.answer; claims = unit_claims _ _ _ _ }
