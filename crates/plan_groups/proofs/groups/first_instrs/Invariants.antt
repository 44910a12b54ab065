-- `first_instrs` stores the number of each block's first instruction. The loop's invariant: `sum`
-- is the sum of the counts passed, and quarter 3 has those sums for the blocks passed.
use Rattle.plan_groups.proofs.Grouping as grouping
use Prim.Native.Nat.{◌-◌}
use Rattle.plan_groups.proofs.groups.first_instrs.Given as goal

abbrev pub invariant-loop-i : goal.invariant-loop-i
invariant-loop-i l = grouping.Counting l.file l.n l.initial.work l.sum l.i l.work
