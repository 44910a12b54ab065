-- By the early refusal and the room of the work numbers.
-- Assumes nothing.
use Rattle.std.proofs.Common.{ap, arith}
use Rattle.file_blocks.proofs.Accepted.{few_blocks}
use Rattle.file_blocks.proofs.Answers.{accepted_file, accepted_blocks, accepted_instrs}
use Rattle.call_frame.specs.Refusal.{early_of}
use Rattle.call_frame.proofs.Opening.{opening_early, opening_8}
use Rattle.call_frame.proofs.open.admit.Goals as goal

pub returns-in-Some-clause-refused : goal.returns-in-Some-clause-refused
returns-in-Some-clause-refused c f given =
    opening_early _ (accepted_file _ _ given) _ _ _ _ (ap early_of c.in-Some.is)

pub returns-then-lent-per_block-clause-refused : goal.returns-then-lent-per_block-clause-refused
returns-then-lent-per_block-clause-refused c f given =
    opening_8 _ (accepted_file _ _ given) _ _ _ _ (accepted_blocks _ _ given)
    (ap early_of c.in_default.is) c.if-lent-per_block.true

pub returns-clause-open : goal.returns-clause-open
returns-clause-open c f given =
    let all = accepted_blocks _ _ given in
    record {
      accepted = accepted_file _ _ given;
      blocks = all;
      few = omega (arith, all, few_blocks _ _ (accepted_file _ _ given));
      nothing = ap early_of c.in_default.is;
      room = c.if-lent-per_block.false;
    }

pub returns-clause-counted : goal.returns-clause-counted
returns-clause-counted c f given = accepted_instrs _ _ given
