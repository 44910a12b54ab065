-- `extend_reason` tells Ror by 0.
-- Assumes nothing.
use borrow.Author.Tests.{eq-eqb, ne_eqb}
use mathlib.Core.Path.{refl}
use Rattle.emit_reasons.proofs.reasons.extend_reason.Goals as goal

pub returns-then-amount-eq0 : goal.returns-then-amount-eq0
returns-then-amount-eq0 c = rw (c.in-Ror.is, eq-eqb _ _ c.if-amount-eq0.true) refl

pub returns-else-amount-eq0 : goal.returns-else-amount-eq0
returns-else-amount-eq0 c = rw (c.in-Ror.is, ne_eqb _ _ c.if-amount-eq0.false) refl
