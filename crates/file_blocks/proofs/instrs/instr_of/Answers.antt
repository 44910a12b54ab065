-- `file_blocks::instrs::instr_of` meets its contract: its calls one after the other are the
-- definition's. Assumes nothing.
use Rattle.file_blocks.proofs.instrs.instr_of.Goals as goal

pub returns : goal.returns
returns c =
    rw (
      c.instr_at.ensures,
      c.wrapping_add_usize-at.ensures.value,
      c.instr_addr.ensures,
    )
