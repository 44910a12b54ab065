-- The first i lent numbers stand from place `at` on, and the rest of the list is as it was.
use Rattle.std.proofs.Common.{◌≡◌, ◌+◌, ◌≤◌, length}
use lib.Seq.{paste}
use Rattle.case_plan.proofs.put.Given as goal

abbrev pub invariant-loop-i : goal.invariant-loop-i
invariant-loop-i l =
    (length l.list ≡ length l.fn.list) × (l.list ≡ paste l.fn.list l.at l.lent l.i)
