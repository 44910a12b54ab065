-- `group_end` looks for the next row with another number. The loop's invariant: the rows passed
-- have the number of row p. Assumes nothing.
use Prim.Native.Nat.{ℕ, ◌+◌, ◌*◌, ◌-◌, ◌≤◌, ◌<◌}
use lib.ListN.{length, get_or}
use mathlib.Core.Path.{◌≡◌}
use Rattle.plan_members.proofs.rows.group_end.Given as goal

abbrev pub invariant-loop-end : goal.invariant-loop-end
invariant-loop-end l = (l.p < l.end) × (l.end ≤ l.n) × (4 * l.n ≤ length l.work)
    × ((q : ℕ) → l.p ≤ q → q < l.end → get_or l.work (2 * l.n + q) 0 ≡ get_or l.work (2 * l.n + l.p) 0)
