-- Either the listing stands in the front of the buffer, or it is as it was and the line of the
-- refusal is put there. Assumes nothing.
use Rattle.std.proofs.Common.{arith}
use Rattle.list_program.proofs.Room.{listing_shown, refusal_shown}
use Rattle.list_program.proofs.put_answer.Goals as goal

pub returns-in-Ok : goal.returns-in-Ok
returns-in-Ok c =
    listing_shown _ c.requires.0 _ _ (omega arith) c.requires.1 _ _ _ c.in-Ok.ensures.answer

pub returns-in-Err : goal.returns-in-Err
returns-in-Err c =
    refusal_shown _ c.requires.0 _ _ (omega arith) c.requires.1 _ _ _ _ _ _ c.in-Err.ensures.answer
    c.put_refusal.ensures
