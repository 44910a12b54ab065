-- `aligned` tells whether a block's address suits its instruction set: the Thumb bit chooses the
-- divisor in code and definition alike.
use Rattle.file_records.specs.BlockRecord.{aligned}
use lib.Dec.{eqb}
use Prim.Native.Nat.{ℕ, ◌%◌}
use mathlib.Core.Path.{ap}
use Rattle.file_records.proofs.block_record.aligned.Goals as goal

pub returns-then-thumb : goal.returns-then-thumb
unfolding aligned
returns-then-thumb c =
    rw (← c.thumb.ensures, c.if-thumb.true)
    (ap (λ (n : ℕ). eqb (n % 2) 0) c.addr-address.ensures)

pub returns-else-thumb : goal.returns-else-thumb
unfolding aligned
returns-else-thumb c =
    rw (← c.thumb.ensures, c.if-thumb.false)
    (ap (λ (n : ℕ). eqb (n % 4) 0) c.addr-address.ensures)
