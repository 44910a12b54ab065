-- Steps: how long units are at most.
use Rattle.std.specs.Prelude.{ℕ, ◌+◌, ◌*◌, ◌≤◌, ◌<◌, ◌≡◌, get_or}
use mathlib.Core.List.{List, Memᴰ}
use Rattle.base_hash.specs.Fnv.{hash_multiplier}
use Rattle.file_records.specs.Trailer.{block_count}
use Rattle.file_blocks.specs.Parse.{blocks_of, Accepted}
use Rattle.lower_units.specs.Units.{TranslationUnit, units, default_body}
use Rattle.emit_group.specs.Groups.{file_bodies}
use Rattle.emit_units.specs.Texts.{unit_length}

-- what block i of an accepted file adds to the text of its group at most
abbrev pub IsBlockBound : List ℕ → ℕ → ℕ → Type 0
IsBlockBound f i r = Accepted f → i < block_count f
    → r ≡ 700 + (get_or (file_bodies f) i default_body).count * 2600

-- no unit of a file is longer
abbrev pub Bounds : List ℕ → ℕ → ℕ → ℕ → Type 0
Bounds f limit max bound = (u : TranslationUnit)
    → Memᴰ u (units hash_multiplier limit max (blocks_of f)) → unit_length u ≤ bound
