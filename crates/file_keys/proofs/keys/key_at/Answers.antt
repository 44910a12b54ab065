-- `key_at` reads the record of a block that there is.
-- Assumes nothing.
use Prim.Native.Nat.{ℕ, ◌+◌, ◌*◌}
use mathlib.Core.Path.{sym, ap, ◌∙◌}
use native.Mathlib.Omega.{arith}
use Rattle.file_records.specs.BlockRecord.{key_at}
use Rattle.file_keys.proofs.Reading as reading
use Rattle.file_keys.proofs.Reading.{record_inside}
use Rattle.file_keys.proofs.keys.key_at.Goals as goal

pub key-requires : goal.key-requires
key-requires c = record_inside c.requires _ c.if-i-records.true

pub returns-then-i-records : goal.returns-then-i-records
returns-then-i-records c =
    c.key.ensures.key
    ∙ ap (key_at c.args.file.now)
    (ap (λ (k : ℕ). k + 16 * c.args.i) c.requires.starts ∙ omega arith)
    ∙ sym (reading.key_at_lem c.args.file.now c.args.i (omega (arith, c.requires.many)))

pub returns-else-i-records : goal.returns-else-i-records
returns-else-i-records c =
    sym (reading.key_past c.args.file.now c.args.i
    (omega (arith, c.requires.many)))
