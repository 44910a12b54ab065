-- Steps: what is printed of a vector.
use Rattle.std.specs.Prelude.{ℕ, ◌≡◌, Bool, true, false, Option, Result, Err, List, OnOk}
use Rattle.std.specs.Io.KnownBytes.{Keeps, Appends}
use Rattle.std.specs.declared.io.Error.{Error}
use Rattle.case_io.specs.Lines.{early_line, long_line}
use Rattle.case_io.specs.declared.broken.Broken.{Broken}
use Rattle.case_io.specs.declared.broken.Broken.TheVariants.{Ended, TooLong, Failed}

-- nothing, or a line
abbrev pub Tells : List ℕ → Option (List ℕ) → Option (List ℕ) → Bool → Type 0
Tells line old new true = Keeps old new
Tells line old new false = Appends old new line

-- the line on a vector that was not replayed; an error has none and is handed on
abbrev pub TellsBroken : ℕ → Broken → Option (List ℕ) → Option (List ℕ)
    → Result Unit Error → Type 0
TellsBroken k Ended old new result = OnOk result (Appends old new (early_line k))
TellsBroken k TooLong old new result = OnOk result (Appends old new (long_line k))
TellsBroken k (Failed e) old new result = result ≡ Err e
