-- `mul_reason` tests rd.
-- Assumes nothing.
use borrow.Author.Tests.{eq-eqb, ne_eqb}
use mathlib.Core.Path.{refl}
use Rattle.lower_reasons.specs.Reasons.{reason_by}
use Rattle.emit_reasons.proofs.reasons.mul_reason.Goals as goal

pub returns-then-rd-eq-PC : goal.returns-then-rd-eq-PC
unfolding reason_by
returns-then-rd-eq-PC c = λ region k acc s rn rs rm. rw (eq-eqb _ _ c.if-rd-eq-PC.true) refl

pub returns : goal.returns
unfolding reason_by
returns c = λ region k acc s rn rs rm. rw (ne_eqb _ _ c.if-rd-eq-PC.false) refl
