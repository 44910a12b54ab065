-- Steps: the limits of all kinds and forms, as they lie in memory.
use Rattle.std.specs.Prelude.{ℕ, zero, suc, ◌/◌, ◌%◌, List, [], ◌++◌}
use Rattle.file_instrs.specs.InstrRecord.{largest}

-- the limits of the numbers below n one after another; a number has the kind as its last digit and
-- the form before it
unfoldable pub limits_to : ℕ → List ℕ
limits_to zero = []
limits_to (suc n) = limits_to n ++ largest (n % 10) (n / 10)
