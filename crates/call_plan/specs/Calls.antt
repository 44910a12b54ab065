-- To be believed: the public call for the plan of a file. It is lent work numbers and a plan.
use Rattle.std.specs.Prelude.{ℕ, List, [], ◌∷◌, length}
use Rattle.std.proofs.Math.Option.{none}
use Rattle.file_blocks.specs.Parse.{Block, Parsed}
use Rattle.plan_groups.specs.Plan.{plan}
use Rattle.call_frame.specs.Frame.{Call, Outcome, makes, call_frame}
use Rattle.call_frame.specs.Numbers.{Handed, handed}

-- what it makes at a group limit: the number of blocks, and two numbers for each
abbrev pub asks_plan : ℕ → Call ℕ
asks_plan limit =
    record {
      early = none;
      per_block = 4;
      own = λ (bs : List Block) (rooms : List ℕ). makes (length bs) (plan limit bs ∷ []);
    }

-- the call for the plan of a file, by the work numbers and the plan that are lent
abbrev pub plan_call : ℕ → Parsed → List ℕ → List ℕ → Outcome ℕ
plan_call limit p work result = call_frame (asks_plan limit) p work (result ∷ [])

-- what it hands over: after the numbers of every answer the number of blocks
abbrev pub plan_numbers : Outcome ℕ → Handed
plan_numbers = handed 1 (λ (n : ℕ). n ∷ [])
