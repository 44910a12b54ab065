-- Addresses without their low bits, and their keys.
use Prim.Native.Nat.{ℕ, ◌+◌, ◌*◌, ◌/◌, ◌%◌, ◌<◌}
use native.Mathlib.Omega.{arith}
use mathlib.Core.Path.{◌≡◌}
use mathlib.Core.Bool.{Bool, true, false}
use Rattle.armv4t.specs.Instr.{size_of}

pub plus_zero : (x : ℕ) → x ≡ x + 0
plus_zero x = omega arith

pub twos : (x : ℕ) → x / 2 * 2 ≡ (x / 2 * 2 + 1) / 2 * 2
twos x = omega arith

pub two_lt : (x : ℕ) → x < 4294967296 → x / 2 * 2 < 4294967296
two_lt x h = omega arith

pub zeros : (x : ℕ) → x / 4 * 4 ≡ (x / 4 * 4 + 0) / 2 * 2
zeros x = omega arith

-- a multiple of an instruction's size is even
pub aligned_even : (t : Bool) (a : ℕ) → a % size_of t ≡ 0 → a % 2 ≡ 0
aligned_even true a h = omega arith
aligned_even false a h = omega arith
