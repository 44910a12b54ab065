-- `own_roots` leaves each number as its own parent: those passed are. Assumes nothing.
use Rattle.std.proofs.Common.{◌≡◌, ℕ, ◌<◌}
use Rattle.base_forest.specs.Roots.{parent}
use Rattle.base_forest.proofs.own_roots.Given as goal

abbrev pub invariant-loop-i : goal.invariant-loop-i
invariant-loop-i l = (k : ℕ) → k < l.i → parent l.p k ≡ k
