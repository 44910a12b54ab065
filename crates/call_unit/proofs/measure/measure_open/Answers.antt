-- The work numbers are filled, read and cleared.
-- Assumes nothing.
use mathlib.Core.Path.{◌∙◌}
use Rattle.call_frame.proofs.Opening.{settled_call}
use Rattle.call_frame.proofs.Settling.{cleared_same}
use Rattle.call_unit.specs.Calls.{asks_of_unit, measures}
use Rattle.call_unit.proofs.measure.measure_open.Goals as goal

pub returns : goal.returns
returns c =
    record {
      answer = let a = c.args in
          settled_call (asks_of_unit (measures a.k) a.limit a.max a.k) _ _ _ _ c.requires _
          (c.clear.ensures ∙ cleared_same _ _ _ c.prepare.ensures.same c.prepare.ensures.after) _
          (c.answer_measure-answer.ensures.answer _);
    }
