-- The work numbers are filled, read and cleared.
-- Assumes nothing.
use mathlib.Core.Path.{◌∙◌}
use Rattle.call_frame.proofs.Opening.{settled_call}
use Rattle.call_frame.proofs.Settling.{cleared_same}
use Rattle.call_units.specs.Calls.{asks_units}
use Rattle.call_units.proofs.units.emit_units.Goals as goal

pub returns : goal.returns
returns c =
    record {
      answer = settled_call (asks_units c.args.asked) _ _ _ _ c.requires _
          (c.clear.ensures ∙ cleared_same _ _ _ c.prepare.ensures.same c.prepare.ensures.after) _
          (c.answer_units-answer.ensures.answer _);
    }
