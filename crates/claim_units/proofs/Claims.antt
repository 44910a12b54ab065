-- The claims hold of every file, at every limit and size.
-- Assumes nothing.
use Prim.Native.Nat.{ℕ}
use mathlib.Core.List.{List}
use Rattle.claim_meaning.proofs.Meaning.{meaning_of}
use Rattle.claim_ways.proofs.Demand3.{demand_3_of, demand_3_applies_of}
use Rattle.claim_functions.proofs.Claim.{executions_are_ways_lem, execution_claim}
use Rattle.claim_functions.proofs.Means.{labels_plain, execution_determined, execution_means}
use Rattle.claim_functions.proofs.Means.{execution_begins, execution_gets_on}
use Rattle.claim_units.specs.Claims.{UnitClaims}

pub unit_claims : (multiplier limit max : ℕ) (f : List ℕ) → UnitClaims multiplier limit max f
unit_claims multiplier limit max f =
    record {
      demand3 = demand_3_of multiplier limit max f;
      applies = demand_3_applies_of multiplier limit max f;
      meaning = meaning_of multiplier f;
      executions_are_ways = executions_are_ways_lem multiplier limit max f;
      executions = execution_claim multiplier limit max f;
      labels = labels_plain multiplier limit max f;
      determined = execution_determined multiplier limit max f;
      carries_out = execution_means multiplier limit max f;
      begins = execution_begins multiplier limit max f;
      gets_on = execution_gets_on multiplier limit max f;
    }
