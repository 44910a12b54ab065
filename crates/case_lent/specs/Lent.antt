-- Steps: what stands in a place that a vector lends before a call.
use Rattle.std.specs.Prelude.{ℕ, ◌≡◌, ◌-◌, ◌%◌, ◌<◌, min, List, length, get_or}
use Rattle.call_frame.specs.Frame.{cleared}

-- a list of n numbers, each the one for its index
pub record EachIs (n : ℕ) (at : ℕ → ℕ) (list : List ℕ) : Type 0 where
  pub long : length list ≡ n
  pub each : (i : ℕ) → i < n → get_or list i 0 ≡ at i

-- the work number at an index, which no call writes
abbrev pub work_at : ℕ → ℕ
work_at i = 4294967295 - i

-- the byte of text at an index
abbrev pub text_at : ℕ → ℕ
text_at i = 255 - i % 127

-- the length at an index
abbrev pub length_at : ℕ → ℕ
length_at i = 18446744073709551615 - i

-- all work numbers, of which the first so many are 0
abbrev pub IsWork : ℕ → List ℕ → Type 0
IsWork n work =
    (numbers : List ℕ) × EachIs 576 work_at numbers × (work ≡ cleared (min n 576) numbers)
