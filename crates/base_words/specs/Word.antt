-- To be believed: operations on the bits of numbers, by names that do not unfold by themselves,
-- since lib.Bits writes its first argument twice wherever it unfolds.
use Rattle.std.specs.Prelude.{ℕ, ◌/◌, ◌%◌, ◌^◌, ◌≡◌, refl, Bool, true, false, eqb}
use Rattle.std.specs.Int.Bits.{bit_and, bit_or, bit_xor}

-- and, bit by bit
unfoldable pub AND : ℕ → ℕ → ℕ
AND x y = bit_and x y

-- or, bit by bit
unfoldable pub OR : ℕ → ℕ → ℕ
OR x y = bit_or x y

-- exclusive or, bit by bit
unfoldable pub EOR : ℕ → ℕ → ℕ
EOR x y = bit_xor x y

-- x[i]: bit i of x
abbrev pub bit : ℕ → ℕ → Bool
bit x i = eqb (x / 2 ^ i % 2) 1

-- a truth value as a bit
abbrev pub one_if : Bool → ℕ
one_if true = 1
one_if false = 0

-- 12 is 1100, 10 is 1010
and_12_10 : AND 12 10 ≡ 8
unfolding AND
and_12_10 = refl

or_12_10 : OR 12 10 ≡ 14
unfolding OR
or_12_10 = refl

eor_12_10 : EOR 12 10 ≡ 6
unfolding EOR
eor_12_10 = refl

bit_2_of_12 : bit 12 2 ≡ true
bit_2_of_12 = refl

bit_1_of_12 : bit 12 1 ≡ false
bit_1_of_12 = refl
