-- Demand 3 holds: the forms of a block are the block's, and stand for each of its instructions.
use Prim.Native.Nat.{ℕ}
use mathlib.Core.Path.{refl}
use mathlib.Core.List.{List}
use Rattle.lower_forms.specs.Block.{body_of, hash_of}
use Rattle.lower_forms.proofs.RecordCount.{body_count}
use Rattle.claim_ways.proofs.Faithful.{Faithful}
use Rattle.claim_ways.specs.Demand3.{Demand3Of}
use Rattle.claim_ways.specs.Applies.{Demand3AppliesOf}
use Rattle.claim_ways.proofs.EveryWay.{every_way}
use Rattle.claim_ways.proofs.Applies.{applies_of}

-- a body is faithful to its block
pub faithful : (multiplier : ℕ) → Faithful (hash_of multiplier) (body_of multiplier)
unfolding body_of
faithful multiplier =
    record {
      addr = λ b. refl;
      thumb = λ b. refl;
      count = λ b. refl;
      hash = λ b. refl;
      whole = λ b. body_count multiplier b;
    }

-- demand 3 of each file
pub demand_3_of : (multiplier limit max : ℕ) (f : List ℕ) → Demand3Of multiplier limit max f
unfolding Demand3Of
demand_3_of multiplier = every_way (hash_of multiplier) (body_of multiplier) (faithful multiplier)

-- and it applies
pub demand_3_applies_of : (multiplier limit max : ℕ) (f : List ℕ)
    → Demand3AppliesOf multiplier limit max f
unfolding Demand3AppliesOf
demand_3_applies_of multiplier =
    applies_of (hash_of multiplier) (body_of multiplier) (faithful multiplier)
