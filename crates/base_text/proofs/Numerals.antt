-- The laws of digits, whatever the base.
use mathlib.Core.Path.{◌≡◌, refl, sym, ap, ◌∙◌}
use Prim.Native.Nat.{ℕ, zero, suc, ◌+◌, ◌-◌, ◌/◌, ◌%◌, ◌^◌, ◌≤◌, ◌<◌, zero-le}
use native.Mathlib.Nat.{not-suc-le-zero, pow-zero, pow-suc, div-lt_iff_lt-mul, mod-eq_of_lt}
use native.Mathlib.Omega.{arith}
use native.Mathlib.Numerals.{add-one}
use native.Mathlib.Decide.{dec_lt}
use mathlib.Core.List.{List, [], ◌∷◌, ◌++◌}
use borrow.Author.Tests.{lt-ltb, le-ltb}
use lib.ListN.{length, length-append, set}
use Rattle.base_text.specs.Digits.{glyph, numeral, last_digits}
use Rattle.base_text.specs.Wrote.{overlay}
use Rattle.base_text.proofs.Overlay.{overlay_none, overlay_last}

-- d is none of the numbers below k
abbrev pub NoneBelow : ℕ → ℕ → Type 0
NoneBelow d zero = Unit {0}
NoneBelow d (suc k) = NoneBelow d k × (d ≡ k → ⊥)

-- so it is at least k: what is left of a `match` on a number
pub none_below : (d k : ℕ) → NoneBelow d k → k ≤ d
none_below d zero h = zero-le
none_below d (suc k) h = omega (arith, none_below d k h.0, h.1)

-- a number below the base is one digit
pub numeral_one : (b most n : ℕ) → n < b → numeral b (suc most) n ≡ glyph n ∷ []
unfolding numeral
numeral_one b most n h = rw (lt-ltb n b h)

-- another has its last digit after the digits of n / b
pub numeral_more : (b most n : ℕ) → b ≤ n
    → numeral b (suc most) n ≡ numeral b most (n / b) ++ (glyph (n % b) ∷ [])
unfolding numeral
numeral_more b most n h = rw (le-ltb n b h)

pub length_snoc : (s : List ℕ) (x : ℕ) → length (s ++ (x ∷ [])) ≡ suc (length s)
length_snoc s x = length-append s (x ∷ []) ∙ add-one (length s)

pub length_fixed : (b k n : ℕ) → length (last_digits b k n) ≡ k
unfolding last_digits
length_fixed b zero n = refl
length_fixed b (suc k) n =
    length_snoc (last_digits b k (n / b)) (glyph (n % b)) ∙ ap suc (length_fixed b k (n / b))

-- a number without zeros in front is as many of its last digits as it has
pub numeral_fixed : (b most n : ℕ) → numeral b most n ≡ last_digits b (length (numeral b most n)) n
unfolding numeral last_digits
numeral_fixed b zero n = refl
numeral_fixed b (suc most) n =
    elim (dec_lt n b) [
      | yes l ↦ rw (lt-ltb n b l, mod-eq_of_lt l)
      | no g ↦
          let q : b ≤ n = omega arith in
          rw (le-ltb n b q, length_snoc (numeral b most (n / b)) (glyph (n % b)))
          (ap (λ (s : List ℕ). s ++ (glyph (n % b) ∷ [])) (numeral_fixed b most (n / b)))
    ]

-- a loop that counts digits: a turn, and the end
pub count_more : (b most k n : ℕ) → 1 < b → b ≤ n → n < b ^ (most - k)
    → (k + 1 < most) × (n / b < b ^ (most - (k + 1)))
    × (k + length (numeral b (most - k) n) ≡ k + 1 + length (numeral b (most - (k + 1)) (n / b)))
count_more b most k n hb h l = go (most - k) refl
  where
    go : (f : ℕ) → most - k ≡ f → (k + 1 < most) × (n / b < b ^ (most - (k + 1)))
        × (k + length (numeral b (most - k) n)
        ≡ k + 1 + length (numeral b (most - (k + 1)) (n / b)))
    go zero e = absurd (omega (arith, rw (e, pow-zero) at l))
    go (suc zero) e = absurd (omega (arith, rw (e, pow-suc, pow-zero) at l))
    go (suc (suc m)) e =
        let p : most - (k + 1) ≡ suc m = omega arith in (
          omega arith,
          rw p ((div-lt_iff_lt-mul {k = b} {x = n} {y = b ^ suc m} (omega arith)).1
              (rw (e, pow-suc) at l)),
          rw (e, p, numeral_more b (suc m) n h, length_snoc) (omega arith),
        )

pub count_end : (b most k n : ℕ) → n < b → k < most → k + length (numeral b (most - k) n) ≡ k + 1
count_end b most k n h l = go (most - k) refl
  where
    go : (f : ℕ) → most - k ≡ f → k + length (numeral b (most - k) n) ≡ k + 1
    go zero e = absurd (omega arith)
    go (suc m) e = rw (e, numeral_one b m n h)

-- a loop that stores digits from the last: a turn, and the end
store_more : (b at n : ℕ) (d t : List ℕ) → 0 < at → overlay d 0 (last_digits b at n) ≡ t
    → overlay (set d (at - 1) (glyph (n % b))) 0 (last_digits b (at - 1) (n / b)) ≡ t
unfolding last_digits
store_more b zero n d t h e = absurd (not-suc-le-zero h)
store_more b (suc j) n d t h e =
    let p : suc j - 1 ≡ j = omega arith in
    rw p (rw length_fixed at (sym (overlay_last d (last_digits b j (n / b)) (glyph (n % b)))) ∙ e)

pub store_end : (b at n : ℕ) (d t : List ℕ) → at ≤ 0 → overlay d 0 (last_digits b at n) ≡ t → d ≡ t
unfolding last_digits
store_end b zero n d t h e = sym (overlay_none d 0) ∙ e
store_end b (suc at) n d t h e = absurd (not-suc-le-zero h)

-- a call that stores the last hexadecimal digit
pub digit_more : (at n : ℕ) (d : List ℕ) {d' t : List ℕ} {r : ℕ} → 0 < at
    → (d' ≡ set d (at - 1) (glyph (n % 16))) × (r ≡ n / 16)
    → overlay d 0 (last_digits 16 at n) ≡ t → overlay d' 0 (last_digits 16 (at - 1) r) ≡ t
digit_more at n d {d'} {t} {r} h p e = rw (p.0, p.1) (store_more 16 at n d t h e)
