-- To be believed: what every call that writes units claims of them, beside the bytes.
use Rattle.std.specs.Prelude.{ℕ, List}
use Rattle.claim_meaning.specs.Meaning.{MeaningOf}
use Rattle.claim_ways.specs.Demand3.{Demand3Of}
use Rattle.claim_ways.specs.Applies.{Demand3AppliesOf}
use Rattle.claim_functions.specs.Labels.{LabelsPlain}
use Rattle.claim_functions.specs.Determined.{ExecutionDetermined}
use Rattle.claim_functions.specs.Claim.{ExecutionsAreWays, ExecutionClaim}
use Rattle.claim_functions.specs.Means.{ExecutionMeans, ExecutionBegins, ExecutionGetsOn}

-- the claims on the units of a file, whose guards' hashes are made with a multiplier, at a group
-- limit and a wished size
pub record UnitClaims (multiplier limit max : ℕ) (f : List ℕ) : Type 0 where
  -- gate and guard, on every way through the units
  pub demand3 : Demand3Of multiplier limit max f
  -- each block has one function, and a way from it that carries out each record that it prints, by
  -- the record's own text
  pub applies : Demand3AppliesOf multiplier limit max f
  -- what the text of the blocks means, held against the manual
  pub meaning : MeaningOf multiplier f
  -- each execution of a block's function by C99 is a way, so that demand 3 holds of it
  pub executions_are_ways : ExecutionsAreWays multiplier limit max f
  pub executions : ExecutionClaim multiplier limit max f
  -- a label stands in one place at most, inside no braces, and from one state there is one
  -- execution: any two are the same, or one is under way and the beginning of the other
  pub labels : LabelsPlain multiplier limit max f
  pub determined : ExecutionDetermined multiplier limit max f
  -- where all records of a group are covered: an execution carries out blocks of the group one
  -- after the other, as their meaning says, and there is one that returns, or one that carries out
  -- as many instructions as is wished
  pub carries_out : ExecutionMeans multiplier limit max f
  pub begins : ExecutionBegins multiplier limit max f
  pub gets_on : ExecutionGetsOn multiplier limit max f
