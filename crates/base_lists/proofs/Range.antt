-- Consecutive numbers.
-- Assumes nothing.
use Prim.Native.Nat.{ℕ, zero, suc, ◌+◌, ◌<◌}
use mathlib.Core.Path.{◌≡◌, refl, ap, ◌∙◌}
use native.Mathlib.Nat.{zero-add}
use native.Mathlib.Omega.{arith}
use lib.ListN.{length, get_or}
use Rattle.base_lists.specs.Lists.{range}

-- there are n of them
pub length_range : (n i : ℕ) → length (range n i) ≡ n
length_range zero i = refl
length_range (suc n) i = ap suc (length_range n (suc i))

-- number k of those from i on
pub range_at : (n i k : ℕ) → k < n → get_or (range n i) k 0 ≡ i + k
range_at zero i k h = absurd (omega arith)
range_at (suc n) i zero h = omega arith
range_at (suc n) i (suc k) h = range_at n (suc i) k (omega arith) ∙ omega arith

-- number k of those from 0 on
pub range_own : (n i : ℕ) → i < n → get_or (range n 0) i 0 ≡ i
range_own n i h = range_at n 0 i h ∙ zero-add i
