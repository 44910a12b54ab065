-- By what opening tells of the file; the claims hold of every file.
-- Assumes nothing.
use Rattle.std.proofs.Common.{[]}
use Rattle.call_frame.proofs.Opening.{refused_on}
use Rattle.call_unit.specs.Calls.{asks_of_unit, measures}
use Rattle.call_unit.proofs.Claims.{measure_then_write}
use Rattle.call_unit.proofs.measure.measure_of.Goals as goal

pub returns-in_err-open : goal.returns-in_err-open
returns-in_err-open c =
    let a = c.args in record {
      answer = refused_on (asks_of_unit (measures a.k) a.limit a.max a.k) _ ([]) _ _ c.in_err-open.ensures.refused _ c.from_residual.ensures.1;
      measured = measure_then_write _ _ _;
    }

pub returns : goal.returns
returns c = record { answer = c.measure_open.ensures.answer; measured = measure_then_write _ _ _ }
