-- To be believed: numbers in the bytes of a file, little-endian. A byte past the end reads as 0.
use Rattle.std.specs.Prelude.{ℕ, ◌+◌, ◌*◌, List, get_or}

-- the byte at an offset
abbrev pub byte_at : List ℕ → ℕ → ℕ
byte_at s at = get_or s at 0

-- the 16-bit number at an offset
abbrev pub half_at : List ℕ → ℕ → ℕ
half_at s at = byte_at s at + 256 * byte_at s (at + 1)

-- the 32-bit number at an offset
abbrev pub word_at : List ℕ → ℕ → ℕ
word_at s at =
    byte_at s at + 256 * byte_at s (at + 1) + 65536 * byte_at s (at + 2) + 16777216 * byte_at s (at + 3)
