-- `put_rows` writes the plan's rows. The loop's invariant: the first p rows are written and the
-- rest of the plan is as it was.
use lib.ListN.{length}
use Prim.Native.Nat.{◌-◌, ◌≤◌}
use Rattle.call_plan.proofs.Interleaved as rows
use mathlib.Core.Path.{◌≡◌}
use Rattle.call_plan.proofs.rows.put_rows.Given as goal

abbrev pub invariant-loop-p : goal.invariant-loop-p
invariant-loop-p l =
    (l.p ≤ l.n) × (length l.plan ≡ length l.initial.plan) × (l.plan ≡ rows.rows_to l.work l.initial.plan l.n l.p)

abbrev pub decreases-loop-p : goal.decreases-loop-p
decreases-loop-p l = l.n - l.p
