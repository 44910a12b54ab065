-- A product modulo 2^64 by the halves of its factors.
-- Assumes nothing.
use Rattle.std.proofs.Common.{◌≡◌, ℕ, ◌+◌, ◌*◌, ◌/◌, ◌%◌, ◌<◌, ◌≤◌, sym, ap, ◌∙◌, ap₂, mul_assoc, mul_comm, add-mul, mul-le-mul, mul-add, arith}

abbrev pub K : ℕ
K = 4294967296

abbrev top : ℕ
top = 4294967295

-- the product of two halves fits
pub halves_fit : (x y : ℕ) → x ≤ top → y ≤ top → x * y < 18446744073709551616
halves_fit x y h g = omega (arith, mul-le-mul h g)

swap : (x y : ℕ) → x * K * y ≡ x * y * K
swap x y = mul_assoc x K y ∙ ap (λ (z : ℕ). x * z) (mul_comm K y) ∙ sym (mul_assoc x y K)

parts : (h l g m : ℕ) → (h * K + l) * (g * K + m) ≡ h * g * K * K + h * m * K + (l * g * K + l * m)
parts h l g m =
    add-mul (h * K) l (g * K + m)
    ∙ ap₂ (λ (x y : ℕ). x + y)
    (mul-add (h * K) (g * K) m
    ∙ ap₂ (λ (x y : ℕ). x + y) (swap h (g * K) ∙ ap (λ (z : ℕ). z * K) (sym (mul_assoc h g K)))
    (swap h m))
    (mul-add l (g * K) m ∙ ap (λ (z : ℕ). z + l * m) (sym (mul_assoc l g K)))

pub product : (a b mixed : ℕ) → mixed ≡ (a / K * (b % K) + a % K * (b / K)) % 18446744073709551616
    → (a % K * (b % K) + mixed % K * K) % 18446744073709551616 ≡ a * b % 18446744073709551616
product a b mixed is =
    let whole : a * b ≡ (a / K * K + a % K) * (b / K * K + b % K) =
    ap₂ (λ (x y : ℕ). x * y) (omega arith) (omega arith) in
    omega (arith, whole, parts (a / K) (a % K) (b / K) (b % K), is)
