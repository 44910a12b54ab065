-- To be believed: the operators of the manual's pseudo-code, by its glossary.
use Rattle.std.specs.Prelude.{ℕ, ◌+◌, ◌-◌, ◌*◌, ◌/◌, ◌%◌, ◌^◌, ◌≡◌, refl, Bool, true, false, not, ◌&&◌, cond, ltb, leb}
use Rattle.std.specs.Bool.{beq}
use Rattle.base_words.specs.Word.{bit}
use Rattle.armv4t_manual.specs.Machine.{two32}

-- zeros come in at the right; like all shifts here, by fewer than 32 places
abbrev pub logical_shift_left : ℕ → ℕ → ℕ
logical_shift_left x i = x * 2 ^ i % two32

-- zeros come in at the left
abbrev pub logical_shift_right : ℕ → ℕ → ℕ
logical_shift_right x i = x / 2 ^ i

-- copies of bit 31 come in
abbrev pub arithmetic_shift_right : ℕ → ℕ → ℕ
arithmetic_shift_right x i = x / 2 ^ i + cond (bit x 31) (two32 - 2 ^ (32 - i)) 0

-- bits that leave at the right come in at the left
abbrev pub rotate_right : ℕ → ℕ → ℕ
rotate_right x i = x / 2 ^ i + x % 2 ^ i * 2 ^ (32 - i)

-- a word with every bit inverted
abbrev pub NOT : ℕ → ℕ
NOT x = (two32 - 1) - x

-- whether a sum does not fit a word
abbrev pub CarryFrom : ℕ → Bool
CarryFrom s = leb two32 s

-- x - y - i cut to a word
abbrev pub minus : ℕ → ℕ → ℕ → ℕ
minus x y i = (x + two32 + two32 - y - i) % two32

-- whether x - y - i is below 0
abbrev pub BorrowFrom : ℕ → ℕ → ℕ → Bool
BorrowFrom x y i = ltb x (y + i)

-- an addition overflows where both operands have one sign and the outcome s the other
abbrev pub OverflowFromAdd : ℕ → ℕ → ℕ → Bool
OverflowFromAdd x y s = beq (bit x 31) (bit y 31) && not (beq (bit x 31) (bit s 31))

-- a subtraction overflows where the operands' signs differ and the sign of the outcome s is not the
-- first's
abbrev pub OverflowFromSub : ℕ → ℕ → ℕ → Bool
OverflowFromSub x y s = not (beq (bit x 31) (bit y 31)) && not (beq (bit x 31) (bit s 31))

-- a byte with copies of its top bit in front
abbrev pub SignExtend8 : ℕ → ℕ
SignExtend8 x = cond (bit x 7) (x + (two32 - 2 ^ 8)) x

-- a halfword with copies of its top bit in front
abbrev pub SignExtend16 : ℕ → ℕ
SignExtend16 x = cond (bit x 15) (x + (two32 - 2 ^ 16)) x

asr_example : arithmetic_shift_right 0x80000010 4 ≡ 0xf8000001
asr_example = refl

ror_example : rotate_right 0x12345678 8 ≡ 0x78123456
ror_example = refl

-- 1 - 2 borrows; 0x80000000 - 1 overflows, and 1 - 2 does not
minus_example : minus 1 2 0 ≡ 0xffffffff
minus_example = refl

borrow_example : BorrowFrom 1 2 0 ≡ true
borrow_example = refl

overflow_example : OverflowFromSub 0x80000000 1 (minus 0x80000000 1 0) ≡ true
overflow_example = refl

no_overflow_example : OverflowFromSub 1 2 (minus 1 2 0) ≡ false
no_overflow_example = refl

sign_example : SignExtend8 0x80 ≡ 0xffffff80
sign_example = refl
