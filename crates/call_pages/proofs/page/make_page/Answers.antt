-- The work numbers are filled, read and cleared.
-- Assumes nothing.
use mathlib.Core.Path.{◌∙◌}
use Rattle.call_frame.proofs.Opening.{settled_call}
use Rattle.call_frame.proofs.Settling.{cleared_same}
use Rattle.call_pages.specs.Calls.{asks_page}
use Rattle.call_pages.proofs.page.make_page.Goals as goal

pub returns : goal.returns
returns c =
    record {
      answer = settled_call (asks_page c.args.limit c.args.k) _ _ _ _ c.requires _
          (c.clear.ensures ∙ cleared_same _ _ _ c.prepare.ensures.same c.prepare.ensures.after) _
          (c.answer_page-answer.ensures.answer _ c.prepare.ensures.ready _);
    }
