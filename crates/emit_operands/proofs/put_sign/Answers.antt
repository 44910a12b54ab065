-- `emit_operands::put_sign` meets its contract: what its calls write, one after another. Assumes
-- nothing.
use mathlib.Core.Path.{refl}
use borrow.Author.Rules.{rules}
use borrow.Author.Tests.{eq-eqb, ne_eqb}
use Rattle.base_text.proofs.Laws.{none, seq, wrote_as}
use Rattle.emit_operands.proofs.put_sign.Goals as goal

pub returns-then-ror-eq0 : goal.returns-then-ror-eq0
returns-then-ror-eq0 c =
    rw (eq-eqb _ _ c.if-ror-eq0.true) (none (search rules) (search rules))

pub returns : goal.returns
returns c =
    rw (ne_eqb _ _ c.if-ror-eq0.false) (wrote_as (seq c.put_dec-p.ensures c.put.ensures) refl)
