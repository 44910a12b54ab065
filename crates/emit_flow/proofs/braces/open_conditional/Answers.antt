-- `emit_flow::braces::open_conditional` meets its contract: what its calls write, one after
-- another. Assumes nothing.
use mathlib.Core.Path.{refl}
use Rattle.base_text.specs.Digits.{numeral}
use Rattle.base_text.specs.Doc.{decimal}
use Rattle.base_text.proofs.Laws.{wrote_as}
use Rattle.emit_flow.proofs.braces.open_conditional.Goals as goal

pub returns : goal.returns
unfolding decimal numeral
returns c =
    wrote_as c.put.ensures refl
