-- `join_blocks` makes all edges. The loop's invariant: the roots are those of the definition after
-- the edges of the blocks before block i, and no way is longer than 2i.
use Rattle.plan_groups.proofs.Grouping as grouping
use Prim.Native.Nat.{◌-◌}
use Rattle.plan_groups.proofs.groups.join_blocks.Given as goal

abbrev pub invariant-loop-i : goal.invariant-loop-i
invariant-loop-i l = grouping.Edges l.file l.n l.i l.initial.work l.work
