-- `find` reaches the root: each turn halves the way, which keeps every root, and comes nearer to
-- it. Assumes nothing.
use Prim.Native.Nat.{ℕ, ◌*◌, ◌<◌}
use mathlib.Core.Path.{◌≡◌}
use mathlib.Core.List.{List}
use lib.ListN.{length}
use Rattle.base_forest.specs.Roots.{root}
use Rattle.base_forest.proofs.Ways.{Leads}
use Rattle.base_forest.proofs.Ways.{steps}
use Rattle.base_forest.proofs.find.Given as goal

-- where a search for the root of i stands: at `at`, with parents p that have every way that p₀ had
pub record Reached (p₀ : List ℕ) (i : ℕ) (p : List ℕ) (at : ℕ) : Type 0 where
  pub lengths : length p ≡ length p₀
  pub inside : at < length p
  pub kept : {k r d : ℕ} → Leads p₀ k r d → Leads p k r d
  pub left : Leads p at (root p₀ i) (2 * length p₀)

abbrev pub invariant-loop-at : goal.invariant-loop-at
invariant-loop-at l = Reached l.initial.p l.i l.p l.at

abbrev pub decreases-loop-at : goal.decreases-loop-at
decreases-loop-at l = steps (2 * length l.initial.p) l.p l.at
