-- `alu_reason` tests rd and then the operand, as the reasons come.
-- Assumes nothing.
use borrow.Author.Tests.{eq-eqb, ne_eqb}
use mathlib.Core.Path.{refl}
use mathlib.Core.Bool.{or-false}
use Rattle.lower_reasons.specs.Reasons.{operand_shift, passes, by_register, reason_by}
use Rattle.emit_reasons.proofs.reasons.alu_reason.Goals as goal

pub returns-then-rd-eq-PC : goal.returns-then-rd-eq-PC
unfolding reason_by
returns-then-rd-eq-PC c = λ region k op s rn. rw (eq-eqb _ _ c.if-rd-eq-PC.true) refl

pub returns : goal.returns
unfolding reason_by
returns c = λ region k op s rn.
    rw (
      ne_eqb _ _ c.if-rd-eq-PC.false,
      or-false (passes by_register (operand_shift
          c.args.op2)),
    )
    c.operand_reason.ensures
