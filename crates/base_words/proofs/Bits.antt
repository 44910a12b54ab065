-- The laws of operations on bits: those of lib.Bits under the names that do not unfold, the four
-- top bits of a word, and turns.
use mathlib.Core.Path.{◌≡◌, refl, sym, ap, ap₂, ◌∙◌, subst}
use mathlib.Core.Bool.{Bool, true, false, ◌&&◌}
use Prim.Native.Nat.{ℕ, zero, suc, ◌+◌, ◌-◌, ◌*◌, ◌/◌, ◌%◌, ◌^◌, ◌≤◌, ◌<◌}
use native.Mathlib.Nat.{mod-lt, mod-eq_of_lt, mul-mod_left, add-zero, add_comm}
use native.Mathlib.Omega.{arith}
use lib.Dec.{T, eqb, lit<}
use lib.Pow.{mod-pow-add, shl-shr, shr_lt}
use lib.Bits as B
use Rattle.base_words.specs.Word.{AND, OR, EOR, bit, one_if}

-- bit i as a number
bit_at : (k : ℕ) → k < 2 → one_if (eqb k 1) ≡ k
bit_at zero h = refl
bit_at (suc zero) h = refl
bit_at (suc (suc k)) h = absurd (omega-false k h)
  where
    omega-false : (k : ℕ) → suc (suc k) < 2 → ⊥
    omega-false k h = omega arith

pub bit_num : (x i : ℕ) → one_if (bit x i) ≡ x / 2 ^ i % 2
bit_num x i = bit_at (x / 2 ^ i % 2) (mod-lt (x / 2 ^ i) (lit< tt))

-- the laws of lib.Bits

pub and_block : (k a b r s : ℕ) → r < 2 ^ k → s < 2 ^ k
    → AND (a * 2 ^ k + r) (b * 2 ^ k + s) ≡ AND a b * 2 ^ k + AND r s
unfolding AND
and_block = B.and_block

pub or_block : (k a b r s : ℕ) → r < 2 ^ k → s < 2 ^ k
    → OR (a * 2 ^ k + r) (b * 2 ^ k + s) ≡ OR a b * 2 ^ k + OR r s
unfolding OR
or_block = B.or_block

pub and_mask : (x k : ℕ) → AND x (2 ^ k - 1) ≡ x % 2 ^ k
unfolding AND
and_mask = B.and_mask

pub and_high : (x j k : ℕ) → AND x (2 ^ (j + k) - 2 ^ k) ≡ (x / 2 ^ k % 2 ^ j) * 2 ^ k
unfolding AND
and_high = B.and_high

pub and_zero_r : (x : ℕ) → AND x zero ≡ zero
unfolding AND
and_zero_r = B.and_zero_r

pub or_zero_r : (x : ℕ) → OR x zero ≡ x
unfolding OR
or_zero_r = B.or_zero_r

pub or_shifted : (a k b : ℕ) → b < 2 ^ k → OR (a * 2 ^ k) b ≡ a * 2 ^ k + b
unfolding OR
or_shifted = B.or_shifted

pub or_shifted_r : (a k b : ℕ) → b < 2 ^ k → OR b (a * 2 ^ k) ≡ a * 2 ^ k + b
unfolding OR
or_shifted_r = B.or_shifted_r

pub and_shr : (a b k : ℕ) → AND a b / 2 ^ k ≡ AND (a / 2 ^ k) (b / 2 ^ k)
unfolding AND
and_shr = B.and_shr

pub xor_shr : (a b k : ℕ) → EOR a b / 2 ^ k ≡ EOR (a / 2 ^ k) (b / 2 ^ k)
unfolding EOR
xor_shr = B.xor_shr

pub and_lt : (k a b : ℕ) → a < 2 ^ k → b < 2 ^ k → AND a b < 2 ^ k
unfolding AND
and_lt = B.and_lt

pub or_lt : (k a b : ℕ) → a < 2 ^ k → b < 2 ^ k → OR a b < 2 ^ k
unfolding OR
or_lt = B.or_lt

pub xor_lt : (k a b : ℕ) → a < 2 ^ k → b < 2 ^ k → EOR a b < 2 ^ k
unfolding EOR
xor_lt = B.xor_lt

-- the four flags over the other 28 bits

pub and_top : (f m low : ℕ) → low < 2 ^ 28
    → AND (f * 2 ^ 28 + low) (m * 2 ^ 28 + (2 ^ 28 - 1)) ≡ AND f m * 2 ^ 28 + low
and_top f m low h =
    and_block 28 f m low (2 ^ 28 - 1) h (lit< tt)
    ∙ ap (λ (x : ℕ). AND f m * 2 ^ 28 + x) (and_mask low 28 ∙ mod-eq_of_lt h)

pub or_top : (f g low : ℕ) → low < 2 ^ 28
    → OR (f * 2 ^ 28 + low) (g * 2 ^ 28) ≡ OR f g * 2 ^ 28 + low
or_top f g low h =
    ap (OR (f * 2 ^ 28 + low)) (sym (add-zero (g * 2 ^ 28)))
    ∙ or_block 28 f g low 0 h (lit< tt) ∙ ap (λ (x : ℕ). OR f g * 2 ^ 28 + x) (or_zero_r low)

pub sign_top : (x : ℕ) → AND x 0x80000000 ≡ one_if (bit x 31) * 8 * 2 ^ 28
sign_top x = and_high x 1 31 ∙ go (x / 2147483648 % 2) (one_if (bit x 31)) (bit_num x 31)
  where
    go : (k l : ℕ) → l ≡ k → k * 2147483648 ≡ l * 8 * 268435456
    go k l e = omega arith

-- the top bit of a word
pub top_bit : (x : ℕ) → x < 4294967296 → x / 2 ^ 31 ≡ one_if (bit x 31)
top_bit x h = sym (bit_num x 31 ∙ mod-eq_of_lt (lt2 x h))
  where
    lt2 : (x : ℕ) → x < 4294967296 → x / 2147483648 < 2
    lt2 x h = omega arith

-- ~x
pub not_top : (x : ℕ) → x < 4294967296 → (4294967295 - x) / 2 ^ 31 ≡ 1 - x / 2 ^ 31
not_top x h = omega arith

-- both of two tests

pub both_l : (x y : Bool) → T (x && y) → T x
both_l true y h = tt
both_l false y h = h

pub both_r : (x y : Bool) → T (x && y) → T y
both_r true y h = h
both_r false y h = absurd h

-- two tests are one

pub bool_ext : (x y : Bool) → (T x → T y) → (T y → T x) → x ≡ y
bool_ext true true f g = refl
bool_ext true false f g = absurd (f tt)
bool_ext false true f g = absurd (g tt)
bool_ext false false f g = refl

pub is_true : (x : Bool) → T x → x ≡ true
is_true true h = refl
is_true false h = absurd h

pub is_false : (x : Bool) → (T x → ⊥) → x ≡ false
is_false true h = absurd (h tt)
is_false false h = refl

-- a shift to the left, cut

pub shl_mod : (x k j : ℕ) → x * 2 ^ k % 2 ^ (j + k) ≡ x % 2 ^ j * 2 ^ k
shl_mod x k j =
    mod-pow-add (x * 2 ^ k) j k
    ∙ ap₂ (λ (p q : ℕ). p % 2 ^ j * 2 ^ k + q) (shl-shr x k) (mul-mod_left x (2 ^ k))
    ∙ add-zero (x % 2 ^ j * 2 ^ k)

-- (x >> k) | (x << (32 - k))
pub turn : (x k : ℕ) → x < 4294967296 → k ≤ 32
    → OR (x / 2 ^ k) (x * 2 ^ (32 - k) % 4294967296) ≡ x / 2 ^ k + x % 2 ^ k * 2 ^ (32 - k)
turn x k h l =
    ap (λ (p : ℕ). OR (x / 2 ^ k) p)
    (ap (λ (p : ℕ). x * 2 ^ (32 - k) % 2 ^ p) (sym (sub-l k l)) ∙ shl_mod x (32 - k) k)
    ∙ or_shifted_r (x % 2 ^ k) (32 - k) (x / 2 ^ k)
    (shr_lt (32 - k) k (subst (λ (p : ℕ). x < 2 ^ p) (sym (sub-r k l)) h))
    ∙ add_comm (x % 2 ^ k * 2 ^ (32 - k)) (x / 2 ^ k)
  where
    sub-l : (k : ℕ) → k ≤ 32 → k + (32 - k) ≡ 32
    sub-l k l = omega arith

    sub-r : (k : ℕ) → k ≤ 32 → (32 - k) + k ≡ 32
    sub-r k l = omega arith
