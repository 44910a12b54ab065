-- `no_members` fills quarter 3 with n. The loop's invariant: its first r numbers are n and no other
-- number changed.
use Prim.Native.Nat.{◌-◌, ◌≤◌}
use Rattle.plan_groups.specs.Links.{Filled}
use Rattle.plan_groups.proofs.links.no_members.Given as goal

abbrev pub invariant-loop-r : goal.invariant-loop-r
invariant-loop-r l = (l.r ≤ l.n) × Filled l.n l.r l.initial.work l.work
