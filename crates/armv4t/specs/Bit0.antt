-- To be believed: bit 0 of a number, cleared and set.
use Rattle.std.specs.Prelude.{ℕ, ◌+◌, ◌*◌, ◌/◌}

-- n with bit 0 cleared
abbrev pub clear_bit0 : ℕ → ℕ
clear_bit0 n = n / 2 * 2

-- n with bit 0 set
abbrev pub set_bit0 : ℕ → ℕ
set_bit0 n = n / 2 * 2 + 1
