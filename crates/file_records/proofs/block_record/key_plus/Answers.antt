-- `key_plus` adds the Thumb bit to the address.
-- Assumes nothing.
use native.Mathlib.Omega.{arith}
use Rattle.file_records.proofs.block_record.key_plus.Goals as goal

pub returns-then-is_thumb : goal.returns-then-is_thumb
returns-then-is_thumb c = rw c.if-is_thumb.true (omega arith)

pub returns-else-is_thumb : goal.returns-else-is_thumb
returns-else-is_thumb c = rw c.if-is_thumb.false (omega arith)
