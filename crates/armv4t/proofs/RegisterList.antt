-- The registers that a register list names.
use Rattle.std.proofs.Common.{◌≡◌, ℕ, ◌+◌, ◌*◌, ◌/◌, ◌^◌, ◌<◌, ◌≤◌, false, refl, ap, ◌∙◌, arith, pow_mono}
use lib.Arith.{digits_div}
use Rattle.armv4t.specs.RegisterList.{is_listed}

-- a list of 16 bits names no register from 16 on
pub lists_past : (rlist r : ℕ) → rlist < 2 ^ 16 → 16 ≤ r → false ≡ is_listed rlist r
lists_past rlist r small past =
    let least : rlist < 2 ^ r = omega (arith, small, pow_mono past) in
    let same : rlist ≡ 0 * 2 ^ r + rlist = omega arith in
    let gone : rlist / 2 ^ r ≡ 0 = ap (λ (n : ℕ). n / 2 ^ r) same ∙ digits_div 0 least in
    rw (gone) refl
