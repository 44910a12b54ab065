-- To be believed: the group limit that the public calls take.
use Rattle.std.specs.Prelude.{ℕ}

-- the most instructions of a part that holds several blocks
abbrev pub part_limit : ℕ
part_limit = 8192
