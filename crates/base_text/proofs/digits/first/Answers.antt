-- `text::digits::first` meets its contract: the digit times its power and the rest are n
-- throughout, and the rest goes below 8, 4, 2 times the power and at last below the power.
use mathlib.Core.Path.{◌≡◌, ◌∙◌}
use Prim.Native.Nat.{ℕ, zero, suc, ◌+◌, ◌*◌, ◌-◌, ◌/◌, ◌%◌, ◌^◌, ◌≤◌, ◌<◌}
use native.Mathlib.Nat.{pow-suc, pow-le-pow_right}
use native.Mathlib.Omega.{arith}
use lib.Dec.{lit<}
use Rattle.base_text.proofs.FirstDigits.{quotient, first_below}
use Rattle.base_text.proofs.digits.first.Goals as goal

-- a number of i digits is below ten times the power of its first
below_ten : (i n : ℕ) → 0 < i → n < 10 ^ i → n < 10 ^ (i - 1) * 10
below_ten zero n hi h = absurd (omega arith)
below_ten (suc j) n hi h =
    let q : suc j - 1 ≡ j = omega arith in
    rw q (rw pow-suc at h)

-- eight times a power is a u64 where it is not the largest
eight_fits : (i : ℕ) → i < 20 → 10 ^ (i - 1) ≤ 1000000000000000000
eight_fits i h =
    let q : i - 1 ≤ 18 = omega arith in
    pow-le-pow_right {n = 10} (lit< tt) q

-- what is counted, and what is left below the power
digit_of_lem : (i n : ℕ) {p d r : ℕ} → 0 < i → n < 10 ^ i → p ≡ 10 ^ (i - 1) → d * p + r ≡ n → r < p
    → (d ≡ n / 10 ^ (i - 1)) × ((r ≡ n % 10 ^ (i - 1)) × (d < 10))
digit_of_lem i n {p} {d} {r} hi h e s l =
    let q = quotient n p d r s l in
    rw (← e) (q.0, (q.1, rw (q.0, e) (first_below 10 i n (lit< tt) hi h)))

pub subtract-d8-requires : goal.subtract-d8-requires
subtract-d8-requires c =
    let i = c.args.i in
    let p : c.power-p.result ≡ 10 ^ (i - 1) = c.power-p.ensures in
    let f = eight_fits i (omega arith) in
    let b = below_ten i c.args.n c.requires.one
    c.requires.holds in
    record { many = lit< tt; left = omega arith; fits = omega arith }

pub subtract-d4-requires : goal.subtract-d4-requires
subtract-d4-requires c =
    let i = c.args.i in
    let p : c.power-p.result ≡ 10 ^ (i - 1) = c.power-p.ensures in
    let f = eight_fits i (omega arith) in
    record { many = omega (arith, c.subtract-d8.ensures.more); left = omega (arith, c.subtract-d8.ensures.left); fits = omega arith }

pub subtract-d2-requires : goal.subtract-d2-requires
subtract-d2-requires c =
    let i = c.args.i in
    let p : c.power-p.result ≡ 10 ^ (i - 1) =
    c.power-p.ensures in
    let f = eight_fits i (omega arith) in
    record { many = omega (arith, c.subtract-d4.ensures.more); left = omega (arith, c.subtract-d4.ensures.left); fits = omega arith }

pub returns : goal.returns
returns c =
    let p : c.power-p.result ≡ 10 ^ (c.args.i - 1) =
    c.power-p.ensures in
    let e =
    c.subtract-2.ensures.same ∙ c.subtract-d2.ensures.same ∙ c.subtract-d4.ensures.same ∙ c.subtract-d8.ensures.same in
    let all = digit_of_lem c.args.i c.args.n c.requires.one
    c.requires.holds p (omega (arith, e)) (omega (arith, c.subtract-2.ensures.left)) in
    record { digit = all.0; rest = all.1.0; below = all.1.1 }
