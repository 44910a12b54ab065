-- `code_right` tells whether a block's code bytes end inside the code area or, where they are
-- absent, have the offset 0.
use Rattle.file_records.specs.BlockRecord.{code_right}
use lib.Dec.{eqb}
use Prim.Native.Nat.{ℕ}
use mathlib.Core.Path.{ap}
use Rattle.file_records.proofs.block_record.code_right.Goals as goal

pub returns-then-present : goal.returns-then-present
unfolding code_right
returns-then-present c =
    rw (
      ← c.present.ensures,
      c.if-present.true,
      c.offset-start.ensures,
      c.byte_length.ensures.length,
      c.trailer_word.ensures,
    )

pub returns-else-present : goal.returns-else-present
unfolding code_right
returns-else-present c =
    rw (← c.present.ensures, c.if-present.false)
    (ap (λ (n : ℕ). eqb n 0) c.offset-start.ensures)
