-- The laws of digits found from the first on, by what is left of the number: how many there are,
-- and where each is stored. Whatever the base.
use mathlib.Core.Path.{◌≡◌, refl, sym, ap, ◌∙◌}
use Prim.Native.Nat.{ℕ, zero, suc, ◌+◌, ◌*◌, ◌-◌, ◌/◌, ◌%◌, ◌^◌, ◌≤◌, ◌<◌, min}
use native.Mathlib.Nat.{pow-zero, pow-suc, le-div_iff_mul-le, div-lt_iff_lt-mul, mod-eq_of_lt}
use native.Mathlib.Nat.{mul-add-div_right, mul-add-mod_self_right, mul_assoc, mul_comm, mod-lt}
use native.Mathlib.Nat.{div-add-mod, div-eq_of_lt, one-le-pow, pow-le-pow_right, mul-one}
use native.Mathlib.Nat.{mul-le-mul_right, lt_of_lt_of_le, lt_of_le_of_lt, min-eq_left}
use native.Mathlib.Nat.{min-eq_right}
use native.Mathlib.Omega.{arith}
use native.Mathlib.Decide.{dec_lt}
use mathlib.Core.List.{List, [], ◌∷◌, ◌++◌}
use lib.ListN.{length, set}
use Rattle.base_text.specs.Digits.{glyph, numeral, last_digits}
use Rattle.base_text.specs.Wrote.{overlay}
use Rattle.base_text.proofs.Overlay.{overlay_one, overlay_first, overlay_over}
use Rattle.base_text.proofs.Numerals.{numeral_one, numeral_more, length_snoc}
use Rattle.base_text.proofs.Lengths.{numeral_short}

-- a number has a digit
pub numeral_some : (b most n : ℕ) → 0 < length (numeral b (suc most) n)
numeral_some b most n =
    elim (dec_lt n b) [
      | yes one ↦ rw (numeral_one b most n one) (omega arith)
      | no more ↦ rw (numeral_more b most n (omega arith), length_snoc) (omega arith)
    ]

-- a number that reaches a power of the base has more digits than that
numeral_long : (b most k n : ℕ) → 0 < b → k < most → b ^ k ≤ n → k < length (numeral b most n)
numeral_long b zero k n hb l h = absurd (omega arith)
numeral_long b (suc most) zero n hb l h = numeral_some b most n
numeral_long b (suc most) (suc k) n hb l h =
    let p : b ^ k * b ≤ n = rw pow-suc at h in
    let q : 1 * b ≤ b ^ k * b = mul-le-mul_right b (one-le-pow k b hb) in
    rw (numeral_more b most n (omega arith), length_snoc)
    (omega (
      arith,
      numeral_long b most k (n / b) hb (omega arith)
          ((le-div_iff_mul-le {k = b} {x = b ^ k} {y = n} hb).1 p),
    ))

-- so it has k digits where it reaches the power before k and not that of k
pub numeral_count : (b most k n : ℕ) → 1 < b → 0 < k → k ≤ most → b ^ (k - 1) ≤ n → n < b ^ k
    → length (numeral b most n) ≡ k
numeral_count b most zero n hb hk l h m = absurd (omega arith)
numeral_count b most (suc j) n hb hk l h m =
    let q : suc j - 1 ≡ j = omega arith in
    omega (
      arith,
      numeral_long b most j n (omega arith) l (rw q at h),
      numeral_short b most j n hb m,
    )

-- and it is below the power with as many zeros as it has digits
pub numeral_holds : (b most n : ℕ) → 0 < b → n < b ^ most → n < b ^ length (numeral b most n)
unfolding numeral
numeral_holds b zero n hb h = h
numeral_holds b (suc most) n hb h =
    elim (dec_lt n b) [
      | yes one ↦ rw (numeral_one b most n one, pow-suc, pow-zero) (omega arith)
      | no more ↦
          let rest : n / b < b ^ most =
          (div-lt_iff_lt-mul {k = b} {x = n} {y = b ^ most} hb).1 (rw pow-suc at h) in
          rw (numeral_more b most n (omega arith), length_snoc, pow-suc)
          ((div-lt_iff_lt-mul {k = b} {x = n} {y = b ^ length (numeral b most (n / b))} hb).0
          (numeral_holds b most (n / b) hb rest))
    ]

-- d times p and a rest below p: d is the quotient, the rest the remainder
pub quotient : (n p d r : ℕ) → d * p + r ≡ n → r < p → (d ≡ n / p) × (r ≡ n % p)
quotient n p d r e h =
    rw (
      ← e,
      mul-add-div_right {m = p} (omega arith) d r,
      mul-add-mod_self_right d p r,
      div-eq_of_lt h,
      mod-eq_of_lt h,
    )
    (omega arith, refl)

-- a digit and what comes after it
digits_split : (b j d r : ℕ) → 0 < b → d < b → r < b ^ j
    → last_digits b (suc j) (d * b ^ j + r) ≡ glyph d ∷ last_digits b j r
unfolding last_digits
digits_split b zero d r hb hd hr =
    let e : d * b ^ 0 + r ≡ d = rw (pow-zero, mul-one) (omega (arith, rw pow-zero at hr)) in
    rw (e, mod-eq_of_lt hd)
digits_split b (suc j) d r hb hd hr =
    let e : d * b ^ suc j + r ≡ d * b ^ j * b + r = rw (pow-suc, mul_assoc) in
    let rest : r / b < b ^ j =
    (div-lt_iff_lt-mul {k = b} {x = r} {y = b ^ j} hb).1 (rw pow-suc at hr) in
    rw (e, mul-add-div_right hb (d * b ^ j) r, mul-add-mod_self_right (d * b ^ j) b r)
    (ap (λ (s : List ℕ). s ++ (glyph (r % b) ∷ [])) (digits_split b j d (r / b) hb hd rest))

-- the first digit is a digit
digit_below : (b j n : ℕ) → 0 < b → n < b ^ suc j → n / b ^ j < b
digit_below b j n hb h =
    (div-lt_iff_lt-mul {k = b ^ j} {x = n} {y = b} (one-le-pow j b hb)).1
    (rw (pow-suc, mul_comm) at h)

pub first_below : (b i n : ℕ) → 0 < b → 0 < i → n < b ^ i → n / b ^ (i - 1) < b
first_below b zero n hb hi h = absurd (omega arith)
first_below b (suc j) n hb hi h =
    let q : suc j - 1 ≡ j = omega arith in
    rw q (digit_below b j n hb h)

-- the first digit, and the digits of what is left
first_digit : (b j n : ℕ) → 0 < b → n < b ^ suc j
    → last_digits b (suc j) n ≡ glyph (n / b ^ j) ∷ last_digits b j (n % b ^ j)
first_digit b j n hb h =
    let pos : 0 < b ^ j = one-le-pow j b hb in
    let e : n / b ^ j * b ^ j + n % b ^ j ≡ n =
    ap (λ (x : ℕ). x + n % b ^ j) (mul_comm (n / b ^ j) (b ^ j)) ∙ div-add-mod n (b ^ j) in
    ap (last_digits b (suc j)) (sym e)
    ∙ digits_split b j (n / b ^ j) (n % b ^ j) hb (digit_below b j n hb h) (mod-lt n pos)

-- what stood at the front does not matter to digits laid over it
over_front : (b k n c : ℕ) (o : List ℕ) → 0 < b → 0 < k → n < b ^ k
    → overlay (set o 0 c) 0 (last_digits b k n) ≡ overlay o 0 (last_digits b k n)
over_front b zero n c o hb hk h = absurd (omega arith)
over_front b (suc j) n c o hb hk h =
    rw (first_digit b j n hb h)
    (overlay_over o c (glyph (n / b ^ j)) (last_digits b j (n % b ^ j)))

-- The first of the last j + 1 digits of a number with k digits is stored at its index, or, being a
-- zero in front, at the front: the digits still to come, laid over the part from their index on,
-- give what they gave with it.
place_first : (b k j n : ℕ) (o : List ℕ) → 0 < b → 0 < k → n < b ^ suc j → n < b ^ k
    → overlay (set o (k - suc j) (glyph (n / b ^ j))) (k - j) (last_digits b (min j k) (n % b ^ j))
    ≡ overlay o (k - suc j) (last_digits b (min (suc j) k) n)
place_first b k j n o hb hk h l =
    elim (dec_lt j k) [
      | yes less ↦
          let m : min (suc j) k ≡ suc j = min-eq_left (omega arith) in
          let m' : min j k ≡ j = min-eq_left (omega arith) in
          let s : k - j ≡ suc (k - suc j) = omega arith in
          rw (m, m', s, first_digit b j n hb h)
          (overlay_first o (k - suc j) (glyph (n / b ^ j)) (last_digits b j (n % b ^ j)))
      | no more ↦
          let m : min (suc j) k ≡ k = min-eq_right (omega arith) in
          let m' : min j k ≡ k = min-eq_right (omega arith) in
          let s : k - suc j ≡ 0 = omega arith in
          let s' : k - j ≡ 0 = omega arith in
          let p : b ^ k ≤ b ^ j = pow-le-pow_right hb (omega arith) in
          rw (m, m', s, s', mod-eq_of_lt (lt_of_lt_of_le l p))
          (over_front b k n (glyph (n / b ^ j)) o hb hk l)
    ]

-- Still to store are, of k digits, the last i, which are those of n; laid over o from their index
-- on they give t.
abbrev pub ToStore : ℕ → ℕ → ℕ → ℕ → List ℕ → List ℕ → Type 0
ToStore b k i n o t =
    (overlay o (k - i) (last_digits b (min i k) n) ≡ t) × ((n < b ^ i) × (n < b ^ k))

-- a call that stores the first of them
pub place_more : (b k i n : ℕ) (o : List ℕ) {o' t : List ℕ} {r : ℕ} → 0 < b → 0 < k → 0 < i
    → (o' ≡ set o (k - i) (glyph (n / b ^ (i - 1)))) × ((r ≡ n % b ^ (i - 1)) × (r ≤ n))
    → ToStore b k i n o t → ToStore b k (i - 1) r o' t
place_more b k zero n o hb hk hi p h = absurd (omega arith)
place_more b k (suc j) n o {o'} {t} {r} hb hk hi p h =
    let q : suc j - 1 ≡ j = omega arith in
    let l : r < b ^ k = lt_of_le_of_lt p.1.1 h.1.1 in (
      rw (p.0, p.1.0, q) (place_first b k j n o hb hk h.1.0 h.1.1 ∙ h.0),
      (rw (p.1.0, q) (mod-lt n (one-le-pow j b hb)), l),
    )

-- the last digit is what is left
pub place_last : (b k n : ℕ) (o : List ℕ) {t : List ℕ} → 0 < k → n < b → ToStore b k 1 n o t
    → set o (k - 1) (glyph n) ≡ t
unfolding last_digits
place_last b k n o {t} hk h e =
    let m : min 1 k ≡ 1 = min-eq_left (omega arith) in
    sym (overlay_one o (k - 1) (glyph n)) ∙ (rw (m, mod-eq_of_lt h) at e.0)
