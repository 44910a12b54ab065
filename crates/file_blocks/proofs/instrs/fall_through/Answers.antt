-- `file_blocks::instrs::fall_through` meets its contract: its calls one after the other are the
-- definition's. Assumes nothing.
use Rattle.file_blocks.proofs.instrs.fall_through.Goals as goal

pub returns : goal.returns
returns c =
    rw (c.key_of.ensures, c.wrapping_add_u32.ensures.value, c.size.ensures)
