-- `mem` reads a Mem record; bit 0 of its flags is read without the definition's division by 1.
use native.Mathlib.Nat.{div-one}
use Rattle.file_instrs.specs.Decode.{mem_at}
use Rattle.file_instrs.proofs.record.Record.mem.Goals as goal

pub returns : goal.returns
unfolding mem_at
returns c = simp (
  c.byte-bits.ensures,
  c.width.ensures,
  c.byte.ensures,
  c.byte-2.ensures,
  c.byte-3.ensures,
  c.mem_offset.ensures,
  div-one,
)
