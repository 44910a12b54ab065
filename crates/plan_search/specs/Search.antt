-- Steps: whether a block has a key, and that what the search for a block answers is one.
use Rattle.std.specs.Prelude.{ℕ, ◌<◌, Bool, ◌&&◌, List, eqb, ltb, Option, Some, None}
use Rattle.file_records.specs.Trailer.{block_count, block_start}
use Rattle.file_records.specs.BlockRecord.{key_at}

-- whether there is a block i and it has a key
abbrev pub has_key : List ℕ → ℕ → ℕ → Bool
has_key f i key = ltb i (block_count f) && eqb (key_at f (block_start f i)) key

-- a block that was found is one of the file's
abbrev pub TargetInside : List ℕ → Option ℕ → Type 0
TargetInside f (Some i) = i < block_count f
TargetInside f None = Unit {0}
