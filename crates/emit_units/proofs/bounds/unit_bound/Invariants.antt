-- `unit_bound` walks the groups. The loop's invariant: no group passed is longer than `most`.
-- Assumes nothing.
use Prim.Native.Nat.{ℕ, ◌-◌, ◌≤◌, ◌^◌}
use Rattle.plan_members.specs.Prepared.{HoldsPlan}
use Rattle.emit_units.proofs.Bounded.{LongestTo}
use Rattle.emit_units.proofs.bounds.unit_bound.Given as goal

abbrev pub invariant-loop-p : goal.invariant-loop-p
invariant-loop-p l =
    (l.p ≤ l.n)
    × (l.most ≤ 2 ^ 60)
    × ((limit : ℕ) → HoldsPlan l.file l.n limit l.work → LongestTo l.file limit l.p l.most)

abbrev pub decreases-loop-p : goal.decreases-loop-p
decreases-loop-p l = l.n - l.p
