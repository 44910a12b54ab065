-- `no_groups` clears quarter 1. The loop's invariant: it is 0 up to i.
-- Assumes nothing.
use Prim.Native.Nat.{◌*◌, ◌-◌, ◌≤◌}
use lib.ListN.{length}
use Rattle.plan_members.proofs.Groups.{Zeroed}
use Rattle.plan_members.proofs.group_numbers.no_groups.Given as goal

abbrev pub invariant-loop-i : goal.invariant-loop-i
invariant-loop-i l = (l.i ≤ l.n) × (4 * l.n ≤ length l.initial.work) × (l.n ≤ 65536) × Zeroed l.n l.i l.initial.work l.work
