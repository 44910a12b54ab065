-- By what opening tells of the file.
-- Assumes nothing.
use Rattle.std.proofs.Common.{[], ◌∷◌}
use Rattle.call_frame.proofs.Opening.{refused_on}
use Rattle.call_units.specs.Calls.{asks_lengths}
use Rattle.call_units.proofs.lengths.lengths_of.Goals as goal

pub returns-in_err-open : goal.returns-in_err-open
returns-in_err-open c =
    let a = c.args in record {
      answer = refused_on (asks_lengths a.asked) _ (_ ∷ []) _ _ c.in_err-open.ensures.refused _ c.from_residual.ensures.1;
    }
