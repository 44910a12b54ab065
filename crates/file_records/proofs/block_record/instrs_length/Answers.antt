-- `instrs_length` gives the bytes of n instructions, 2 or 4 each, below 2^35 as n is a `u32`.
use native.Mathlib.Omega.{arith}
use Rattle.file_records.proofs.block_record.instrs_length.Goals as goal

pub returns-then-is_thumb : goal.returns-then-is_thumb
returns-then-is_thumb c = rw c.if-is_thumb.true (omega arith)

pub returns-else-is_thumb : goal.returns-else-is_thumb
returns-else-is_thumb c = rw c.if-is_thumb.false (omega arith)
