-- To be believed: demand 3: the claim on ways for the blocks as `lower_forms` has them and any
-- multiplier of the hash.
use Rattle.std.specs.Prelude.{ℕ, List}
use Rattle.lower_forms.specs.Block.{hash_of, body_of}
use Rattle.claim_ways.specs.Claim.{ClaimOf}

-- demand 3 of a file, at a limit and a wished size
unfoldable pub Demand3Of : ℕ → ℕ → ℕ → List ℕ → Type 0
Demand3Of multiplier = ClaimOf (hash_of multiplier) (body_of multiplier)
