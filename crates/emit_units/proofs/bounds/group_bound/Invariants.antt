-- `group_bound` adds what the members take, row by row. The loop's invariant: what the first k take
-- is added.
-- Assumes nothing.
use Prim.Native.Nat.{ℕ, ◌*◌, ◌-◌, ◌≤◌, ◌^◌}
use Rattle.plan_members.specs.GroupRows.{IsGroup}
use Rattle.emit_units.proofs.Bounded.{BoundTo}
use Rattle.emit_units.proofs.bounds.group_bound.Given as goal

abbrev pub invariant-loop-k : goal.invariant-loop-k
invariant-loop-k l =
    (l.bound ≤ l.k * 2 ^ 44)
    × ((limit g : ℕ) → IsGroup l.file limit l.work g l.rows → BoundTo l.file limit g l.k l.bound)
