-- To be believed: demand 3 of executions.
use Rattle.std.specs.Prelude.{ℕ, ◌≡◌, Bool}
use mathlib.Core.List.{List, Memᴰ}
use Rattle.std.proofs.Math.Option.{some}
use Rattle.std.proofs.Math.ListN.{get_elem?}
use Rattle.file_blocks.specs.Parse.{Block, block_key, AcceptedAs}
use Rattle.c_tree.specs.Stmt.{Code, block, function}
use Rattle.c_meaning.specs.State.{State}
use Rattle.lower_forms.specs.Block.{hash_of, body_of}
use Rattle.lower_units.specs.Units.{TranslationUnit, units}
use Rattle.claim_ways.specs.Ways.{Event, Way}
use Rattle.claim_ways.specs.Claim.{all_units, WayClaim}
use Rattle.claim_functions.specs.Execution.{Result, Executes}

module _ (multiplier limit max : ℕ) (f : List ℕ) where
  -- of a file, if it is accepted: every unit, every block with its function in the unit, every
  -- state that it is called in, and every execution of it
  abbrev EachExecution : (ℕ → List Block → Code → List Bool → List Event → Type 0) → Type 0
  EachExecution P =
      (bs : List Block) → AcceptedAs f bs → (i : ℕ) (b : Block)
      → get_elem? bs i ≡ some b
      → (u : TranslationUnit) → Memᴰ u (units multiplier limit max bs) → (c : Code)
      → Memᴰ (function (block (block_key b)) c) u.tree
      → (z : State) (xs : List Bool) (es : List Event) (r : Result) → Executes u.tree c z xs es r
      → P i bs c xs es

  -- it is a way through the units, with the same answers and events
  unfoldable pub ExecutionsAreWays : Type 0
  ExecutionsAreWays =
      EachExecution λ i bs c xs es. Way (all_units (body_of multiplier) limit max bs) c c xs es

  -- demand 3 holds of it
  unfoldable pub ExecutionClaim : Type 0
  ExecutionClaim = EachExecution λ i bs c xs es. WayClaim (hash_of multiplier) limit bs i es
