-- `file_blocks::instrs::key_of` meets its contract: each arm is told the Thumb bit.
-- Assumes nothing.
use Rattle.file_blocks.proofs.instrs.key_of.Goals as goal

pub returns-then-thumb : goal.returns-then-thumb
returns-then-thumb c = rw c.if-thumb.true c.set_bit0.ensures
