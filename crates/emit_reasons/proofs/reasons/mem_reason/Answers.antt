-- `mem_reason` tests rd and then the offset, as the reasons come.
-- Assumes nothing.
use borrow.Author.Tests.{eq-eqb, ne_eqb}
use mathlib.Core.Path.{refl}
use Rattle.lower_reasons.specs.Reasons.{reason_by}
use Rattle.emit_reasons.proofs.reasons.mem_reason.Goals as goal

pub returns-then-rd-eq-PC : goal.returns-then-rd-eq-PC
unfolding reason_by
returns-then-rd-eq-PC c = λ region k load width signed rn pre up writeback. rw (eq-eqb _ _ c.if-rd-eq-PC.true) refl

pub returns : goal.returns
unfolding reason_by
returns c = λ region k load width signed rn pre up writeback. rw (ne_eqb _ _
    c.if-rd-eq-PC.false) c.offset_reason.ensures
