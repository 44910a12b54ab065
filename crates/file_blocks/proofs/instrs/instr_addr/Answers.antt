-- `file_blocks::instrs::instr_addr` meets its contract: each arm is told the Thumb bit.
-- Assumes nothing.
use Rattle.file_blocks.proofs.instrs.instr_addr.Goals as goal

pub returns-then-thumb : goal.returns-then-thumb
returns-then-thumb c = rw c.if-thumb.true

pub returns-else-thumb : goal.returns-else-thumb
returns-else-thumb c = rw c.if-thumb.false
