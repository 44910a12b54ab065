-- `emit_operands::put_reg` meets its contract: what its calls write, one after another. Assumes
-- nothing.
use mathlib.Core.Path.{refl}
use borrow.Author.Tests.{eq-eqb, ne_eqb}
use Rattle.base_text.proofs.Laws.{wrote_as}
use Rattle.emit_operands.proofs.put_reg.Goals as goal

pub returns-then-n-eq15 : goal.returns-then-n-eq15
returns-then-n-eq15 c =
    rw (eq-eqb _ _ c.if-n-eq15.true) (wrote_as c.put_word.ensures refl)

pub returns-else-n-eq15 : goal.returns-else-n-eq15
returns-else-n-eq15 c =
    rw (ne_eqb _ _ c.if-n-eq15.false) (wrote_as c.put_place.ensures refl)
