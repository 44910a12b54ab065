-- `put_roots` stores the roots of all blocks. The loop's invariant: quarter 2 has the roots of the
-- first i blocks, and the searches kept every root.
use Rattle.plan_groups.specs.Groups.{quarter1, AllRooted}
use Rattle.base_forest.specs.Forest.{Forest}
use lib.ListN.{length}
use Prim.Native.Nat.{◌*◌, ◌-◌, ◌≤◌}
use Rattle.plan_groups.proofs.groups.put_roots.Given as goal

abbrev pub invariant-loop-i : goal.invariant-loop-i
invariant-loop-i l = (l.i ≤ l.n) × (4 * l.n ≤ length l.initial.work) × (l.n ≤ 65536)
    × Forest (2 * l.n) (quarter1 l.n l.initial.work) × AllRooted l.n l.i l.initial.work l.work
