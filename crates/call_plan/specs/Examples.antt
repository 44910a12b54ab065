-- Examples: the call for the plan on document 01's three blocks, computed.
use Rattle.std.specs.Prelude.{◌≡◌, refl, [], ◌∷◌, replicate}
use Rattle.call_frame.specs.Answer.{refusal, value}
use Rattle.file_blocks.specs.Parse.{Parsed}
use Rattle.plan_exits.specs.Examples.{arm_block, three_blocks}
use Rattle.plan_exits.specs.Exits.{exits, instr_exits}
use Rattle.base_forest.specs.Roots.{follow}
use Rattle.call_frame.specs.Frame.{call_on_blocks, call_frame}
use Rattle.file_keys.specs.Order.{insert, sort_by_key}
use Rattle.plan_groups.specs.Limit.{part_limit}
use Rattle.plan_search.specs.Target.{target}
use Rattle.plan_groups.specs.Plan.{join_exits, join_blocks, parents, with_root}
use Rattle.plan_groups.specs.Plan.{parts, groups_from, groups, rows_from, plan}
use Rattle.call_plan.specs.Calls.{plan_call}

-- a refused file
plan_refused : plan_call part_limit (Parsed.refused 4 2) (replicate 12 5) (replicate 6 7)
    ≡ record { answer = refusal 4 2; work = replicate 12 5; results = replicate 6 7 ∷ [] }
unfolding call_frame
plan_refused = refl

-- eleven work numbers are too few, which is found before the result that is too short
plan_8 : plan_call part_limit (Parsed.accepted three_blocks) (replicate 11 5) (replicate 5 7)
    ≡ record { answer = refusal 8 0; work = replicate 11 5; results = replicate 5 7 ∷ [] }
unfolding call_frame call_on_blocks three_blocks
plan_8 = refl

-- five numbers are too few for the result, and of thirteen work numbers twelve are cleared
plan_10 : plan_call part_limit (Parsed.accepted three_blocks) (replicate 13 5) (replicate 5 7)
    ≡ record {
      answer = refusal 10 0;
      work = 0 ∷ 0 ∷ 0 ∷ 0 ∷ 0 ∷ 0 ∷ 0 ∷ 0 ∷ 0 ∷ 0 ∷ 0 ∷ 0 ∷ 5 ∷ [];
      results = replicate 5 7 ∷ [];
    }
unfolding call_frame call_on_blocks three_blocks arm_block plan rows_from groups groups_from parts
    sort_by_key insert with_root parents join_blocks join_exits target follow exits instr_exits
plan_10 = refl

-- the plan in the front of seven numbers: block 1 alone, then blocks 0 and 2
plan_made : plan_call part_limit (Parsed.accepted three_blocks) (replicate 12 5) (replicate 7 7)
    ≡ record
    { answer = value 3; work = replicate 12 0; results = (0 ∷ 1 ∷ 1 ∷ 0 ∷ 1 ∷ 2 ∷ 7 ∷ []) ∷ [] }
unfolding call_frame call_on_blocks three_blocks arm_block plan rows_from groups groups_from parts
    sort_by_key insert with_root parents join_blocks join_exits target follow exits instr_exits
plan_made = refl
