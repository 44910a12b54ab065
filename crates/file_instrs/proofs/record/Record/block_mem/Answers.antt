-- `block_mem` reads a BlockMem record; bit 0 of its flags is read without the definition's
-- division by 1.
use native.Mathlib.Nat.{div-one}
use Rattle.file_instrs.specs.Decode.{block_mem_at}
use Rattle.file_instrs.proofs.record.Record.block_mem.Goals as goal

pub returns : goal.returns
unfolding block_mem_at
returns c = simp (c.byte-bits.ensures, c.byte.ensures, c.half.ensures, div-one)
