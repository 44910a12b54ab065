-- To be believed: the register list of a BlockMem: bit r stands for register r.
use Rattle.std.specs.Prelude.{ℕ, ◌/◌, ◌%◌, ◌^◌, Bool, ◌==◌}

-- whether a register list names a register
abbrev pub is_listed : ℕ → ℕ → Bool
is_listed rlist r = rlist / 2 ^ r % 2 == 1
