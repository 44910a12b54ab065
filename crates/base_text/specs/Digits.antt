-- To be believed: a number as text: its digits in a base, the most significant first, with no zeros
-- in front or with a fixed number of digits.
use Rattle.std.specs.Prelude.{ℕ, zero, suc, ◌+◌, ◌/◌, ◌%◌, cond, List, [], ◌∷◌, ◌++◌, ltb}

-- the ASCII code of a digit below 16: `0` to `9`, then `a` to `f`
abbrev pub glyph : ℕ → ℕ
glyph d = cond (ltb d 10) (48 + d) (87 + d)

-- n in base b with no zeros in front, where `most` digits hold it: the digits of n / b, if it has
-- any, and then the last digit
unfoldable pub numeral : ℕ → ℕ → ℕ → List ℕ
numeral b zero n = []
numeral b (suc most) n =
    cond (ltb n b) (glyph n ∷ []) (numeral b most (n / b) ++ (glyph (n % b) ∷ []))

-- the last k digits of n in base b
unfoldable pub last_digits : ℕ → ℕ → ℕ → List ℕ
last_digits b zero n = []
last_digits b (suc k) n = last_digits b k (n / b) ++ (glyph (n % b) ∷ [])
