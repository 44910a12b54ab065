-- `place_blocks` makes the emission order. The loop's invariant: the rows placed and what the links
-- have left of the components make the whole order; a turn places a block or begins a component.
use Rattle.plan_groups.proofs.Ordering as ordering
use Prim.Native.Nat.{◌+◌, ◌-◌}
use Rattle.plan_groups.proofs.order.place_blocks.Given as goal

abbrev pub invariant-loop-place : goal.invariant-loop-place
invariant-loop-place l =
    ordering.Placing l.file l.initial.work l.n l.limit l.place l.group l.total l.open l.r l.h l.work

abbrev pub decreases-loop-place : goal.decreases-loop-place
decreases-loop-place l =
    (l.n - l.place) + (l.n - l.r)
