-- The most bytes that a text can take, by its pieces: a bound that computes where numbers stay
-- unknown. Assumes nothing.
use Prim.Native.Nat.{ℕ, zero, suc, zero-le, ◌+◌, ◌/◌, ◌%◌, ◌^◌, ◌≤◌, ◌<◌}
use mathlib.Core.Bool.{Bool, true, false, cond}
use mathlib.Core.List.{[], ◌∷◌, ◌++◌}
use native.Mathlib.Omega.{arith}
use native.Mathlib.Nat.{le_refl, pow-zero, pow-suc, div-lt_iff_lt-mul}
use native.Mathlib.Decide.{dec_lt}
use lib.Dec.{ltb}
use lib.ListN.{length, length-append}
use Rattle.base_text.specs.Digits.{numeral, glyph}
use Rattle.base_text.specs.Doc.{Doc, nothing, raw, text, dec, hex, hex8, hex16, ◌▸◌, chars}
use Rattle.base_text.specs.Doc.{print, decimal, hexadecimal, hexadecimal8, hexadecimal16}
use Rattle.base_text.proofs.Numerals.{numeral_one, numeral_more, length_fixed}

numeral_length : (b most n : ℕ) → length (numeral b most n) ≤ most
unfolding numeral
numeral_length b zero n = zero-le
numeral_length b (suc most) n = go (ltb n b) (numeral_length b most (n / b))
  where
    go : (t : Bool) → length (numeral b most (n / b)) ≤ most
        → length (cond t (glyph n ∷ []) (numeral b most (n / b) ++ (glyph (n % b) ∷ []))) ≤ suc most
    go true h = omega arith
    go false h = omega (arith, length-append (numeral b most (n / b)) (glyph (n % b) ∷ []))

-- a number below a power of the base has no more digits than that
pub numeral_short : (b most k n : ℕ) → 1 < b → n < b ^ suc k → length (numeral b most n) ≤ suc k
unfolding numeral
numeral_short b zero k n hb h = zero-le
numeral_short b (suc most) zero n hb h =
    let one : n < b = omega (arith, rw (pow-suc, pow-zero) at h) in
    rw (numeral_one b most n one) (le_refl 1)
numeral_short b (suc most) (suc k) n hb h =
    elim (dec_lt n b) [
      | yes one ↦ rw (numeral_one b most n one) (omega arith)
      | no more ↦
          let rest : n / b < b ^ suc k =
          (div-lt_iff_lt-mul {k = b} {x = n} {y = b ^ suc k} (omega arith)).1 (rw pow-suc at h) in
          rw (numeral_more b most n (omega arith))
          (omega (
            arith,
            length-append (numeral b most (n / b)) (glyph (n % b) ∷ []),
            numeral_short b most k (n / b) hb rest,
          ))
    ]

-- the most bytes of a doc: numbers count with all the digits that they can have
abbrev pub most : Doc → ℕ
most nothing = 0
most (raw s) = length s
most (text s) = length (chars s)
most (dec n) = 20
most (hex n) = 16
most (hex8 n) = 8
most (hex16 n) = 16
most (a ▸ b) = most a + most b

-- a text is no longer
pub length_most : (d : Doc) → length (print d) ≤ most d
unfolding print decimal hexadecimal hexadecimal8 hexadecimal16
length_most nothing = zero-le
length_most (raw s) = le_refl _
length_most (text s) = le_refl _
length_most (dec n) = numeral_length 10 20 n
length_most (hex n) = numeral_length 16 16 n
length_most (hex8 n) = omega (arith, length_fixed 16 8 n)
length_most (hex16 n) = omega (arith, length_fixed 16 16 n)
length_most (a ▸ b) = omega (arith, length-append (print a) (print b), length_most a, length_most b)
