-- One law for each of the two answers. The plan has two numbers for each block, and of the work
-- numbers those that grouping changed are cleared. Assumes nothing.
use Prim.Native.Nat.{ℕ, ◌*◌}
use mathlib.Core.List.{List, ◌++◌}
use mathlib.Core.Path.{refl, sym, ap, ap₂, ◌∙◌}
use native.Mathlib.Omega.{arith}
use lib.ListN.{drop}
use Rattle.file_blocks.specs.Parse.{blocks_of}
use Rattle.plan_groups.specs.Plan.{plan}
use Rattle.plan_groups.proofs.PlanLength.{plan_length}
use Rattle.call_frame.proofs.Opening.{block_number, settled_call}
use Rattle.call_frame.proofs.Settling.{cleared_same, refused_10, handed_over}
use Rattle.call_plan.specs.Calls.{asks_plan}
use Rattle.call_plan.proofs.calls.plan_blocks.Goals as goal

pub group_blocks-requires : goal.group_blocks-requires
group_blocks-requires c =
    ((c.requires.room, c.requires.few, c.requires.blocks), c.requires.accepted)

pub returns-then-plan-size : goal.returns-then-plan-size
returns-then-plan-size c =
    record {
      answer = let a = c.args in
          let size = block_number _ _ _ _ _ c.requires in
          settled_call (asks_plan a.limit) _ _ _ _ c.requires _ c.clear.ensures _
          (refused_10 _ (plan a.limit (blocks_of a.file.now)) refl _ a.plan.now
          (omega (arith, plan_length (blocks_of a.file.now) a.limit, size)));
    }

pub returns : goal.returns
returns c =
    record {
      answer = let a = c.args in
          let size = block_number _ _ _ _ _ c.requires in
          let long =
          plan_length (blocks_of a.file.now) a.limit ∙ ap (λ (n : ℕ). 2 * n) (sym size) in
          let rows = c.put_rows.ensures
          ∙ ap₂ (λ (l : List ℕ) (k : ℕ). l ++ drop k a.plan.now)
          c.group_blocks.ensures.rows (sym long) in
          settled_call (asks_plan a.limit) _ _ _ _ c.requires _
          (c.clear-2.ensures ∙ cleared_same _ _ _ c.group_blocks.ensures.same c.group_blocks.ensures.after) _
          (handed_over _ (plan a.limit (blocks_of a.file.now)) refl _ a.plan.now _ _ size
          (omega (arith, long)) rows);
    }
