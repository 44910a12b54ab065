-- To be believed: A4.1 Multiplies: MLA, MUL, SMLAL, SMULL, UMLAL, UMULL; A7.1 MUL. Open: C after
-- MULS and MLAS, C and V after long multiplies, which here stay; and the outcome where Rd is Rm, or
-- two of RdHi, RdLo and Rm are one, which here is the one computed.
use Rattle.std.specs.Prelude.{ℕ, ◌+◌, ◌-◌, ◌*◌, ◌/◌, ◌%◌, ◌≡◌, refl, Bool, true, false, cond, ◌&&◌, eqb}
use Rattle.std.specs.Bool.{beq}
use Rattle.base_words.specs.Word.{bit, one_if}
use Rattle.armv4t_manual.specs.Machine.{two32, Machine, set_reg, set_flags}
use Rattle.armv4t_manual.specs.Operators.{CarryFrom}

-- MUL, and MLA with Rn
abbrev pub multiply : Bool → Bool → ℕ → ℕ → ℕ → ℕ → Machine → Machine
multiply acc s rd rn rs rm m =
    let x : ℕ = (m.r rm * m.r rs + cond acc (m.r rn) 0) % two32 in
    set_reg rd x (cond s (set_flags (bit x 31) (eqb x 0) m.c m.v m) m)

-- 2^64
abbrev pub two64 : ℕ
two64 = 18446744073709551616

-- the absolute value of a signed word
abbrev pub absolute : ℕ → ℕ
absolute x = cond (bit x 31) (two32 - x) x

-- a product of 64 bits, of signed words by two's complement
abbrev pub product : Bool → ℕ → ℕ → ℕ
product false x y = x * y
product true x y =
    cond (beq (bit x 31) (bit y 31)) (absolute x * absolute y)
    ((two64 - absolute x * absolute y) % two64)

-- UMULL, UMLAL, SMULL, SMLAL
abbrev pub multiply_long : Bool → Bool → Bool → ℕ → ℕ → ℕ → ℕ → Machine → Machine
multiply_long signed acc s hi lo rs rm m =
    let p : ℕ = product signed (m.r rm) (m.r rs) in
    let l : ℕ = (p % two32 + cond acc (m.r lo) 0) % two32 in
    let h : ℕ =
    (p / two32 + cond acc (m.r hi) 0 + one_if (CarryFrom (p % two32 + cond acc (m.r lo) 0))) %
    two32 in
    set_reg hi h (set_reg lo l (cond s (set_flags (bit h 31) (eqb h 0 && eqb l 0) m.c m.v m) m))

-- -2 times 3
signed_product : product true 0xfffffffe 3 ≡ 0xfffffffffffffffa
signed_product = refl

unsigned_product : product false 0xfffffffe 3 ≡ 0x2fffffffa
unsigned_product = refl
