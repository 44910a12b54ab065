-- `put_groups` gives each block the group of its first row. The loop's invariant: quarter 1 has the
-- groups of the rows from row p on. Assumes nothing.
use Prim.Native.Nat.{ℕ, ◌*◌, ◌≤◌}
use lib.ListN.{length}
use mathlib.Core.List.{List}
use Rattle.plan_members.specs.Numbers.{GroupsFrom}
use Rattle.plan_members.proofs.group_numbers.put_groups.Given as goal

abbrev pub invariant-loop-p : goal.invariant-loop-p
invariant-loop-p l = (l.p ≤ l.n) × (4 * l.n ≤ length l.work) × (l.n ≤ 65536)
    × ((w : List ℕ) → GroupsFrom l.n l.n w l.initial.work → GroupsFrom l.n l.p w l.work)
