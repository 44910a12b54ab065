-- Steps: what a comparison of two lists prints.
use Rattle.std.specs.Prelude.{ℕ, ◌≡◌, ◌≢◌, ◌<◌, Bool, true, false, Option, List, length, take}
use Rattle.std.specs.Prelude.{get_or}
use Rattle.std.specs.Io.KnownBytes.{Keeps, Appends}

-- nothing where the lists are the same, and otherwise the line on the first place that differs
abbrev pub TellsFirst : (line : ℕ → ℕ → ℕ → List ℕ) → (expected got : List ℕ)
    → Option (List ℕ) → Option (List ℕ) → Bool → Type 0
TellsFirst line expected got old new true = Keeps old new
TellsFirst line expected got old new false =
    (i : ℕ) × (i < length expected) × (take i expected ≡ take i got)
    × (get_or expected i 0 ≢ get_or got i 0)
    × Appends old new (line i (get_or expected i 0) (get_or got i 0))
