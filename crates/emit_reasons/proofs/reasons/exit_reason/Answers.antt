-- `exit_reason` tests the condition and then the region.
-- Assumes nothing.
use borrow.Author.Tests.{eq-eqb, ne_eqb}
use mathlib.Core.Path.{refl}
use Rattle.emit_reasons.proofs.reasons.exit_reason.Goals as goal

pub returns-then-not-al : goal.returns-then-not-al
returns-then-not-al c = rw c.if-not-al.true refl

pub returns-then-region-eq0 : goal.returns-then-region-eq0
returns-then-region-eq0 c = rw (c.if-not-al.false, eq-eqb _ _ c.if-region-eq0.true) refl

pub returns : goal.returns
returns c = rw (c.if-not-al.false, ne_eqb _ _ c.if-region-eq0.false) refl
