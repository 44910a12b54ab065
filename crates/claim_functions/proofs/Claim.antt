-- Each execution of a block's function is a way, so demand 3 holds of it.
use Prim.Native.Nat.{ℕ}
use mathlib.Core.Path.{subst}
use mathlib.Core.List.{List, Memᴰ}
use Rattle.file_blocks.specs.Parse.{Block}
use Rattle.c_tree.specs.Stmt.{Top}
use Rattle.lower_forms.specs.Block.{body_of}
use Rattle.lower_units.specs.Units.{TranslationUnit, units}
use Rattle.claim_ways.specs.Ways.{Way}
use Rattle.claim_ways.specs.Claim.{all_units, ClaimOf}
use Rattle.claim_ways.specs.Demand3.{Demand3Of}
use Rattle.claim_ways.proofs.Pieces.{in_trees}
use Rattle.claim_ways.proofs.Demand3.{demand_3_of}
use Rattle.claim_functions.specs.Claim.{ExecutionsAreWays, ExecutionClaim}
use Rattle.claim_functions.proofs.Ways.{way_of}
use Rattle.c_tree.proofs.Laws.{append_end}

module _ (multiplier limit max : ℕ) (f : List ℕ) where
  -- what stands in a unit stands in the units
  pub in_units : (bs : List Block) (u : TranslationUnit)
      → Memᴰ u (units multiplier limit max bs)
      → (t : Top) → Memᴰ t u.tree → Memᴰ t (all_units (body_of multiplier) limit max bs)
  unfolding all_units
  in_units bs u m t h = in_trees t u (units multiplier limit max bs) m h

  pub executions_are_ways_lem : ExecutionsAreWays multiplier limit max f
  unfolding ExecutionsAreWays
  executions_are_ways_lem bs accepted i b e u m c h z xs es r x =
      subst (λ d. Way (all_units (body_of multiplier) limit max bs) c d xs es) (append_end c)
      (way_of u.tree (all_units (body_of multiplier) limit max bs) (in_units bs u m) x)

  pub execution_claim : ExecutionClaim multiplier limit max f
  unfolding ExecutionClaim ExecutionsAreWays Demand3Of ClaimOf
  execution_claim bs accepted i b e u m c h z xs es r x =
      demand_3_of multiplier limit max f bs accepted i b e c (in_units bs u m _ h) xs es
      (executions_are_ways_lem bs accepted i b e u m c h z xs es r x)
