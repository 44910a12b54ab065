-- `find_start` walks the units. The loop's invariant: the next unit is the first of the groups from
-- row p on. Assumes nothing.
use Prim.Native.Nat.{ℕ, ◌≤◌}
use Rattle.plan_members.specs.Prepared.{HoldsPlan}
use Rattle.emit_units.specs.Units.{StartsAt}
use Rattle.emit_units.proofs.finding.find_start.Given as goal

abbrev pub invariant-loop : goal.invariant-loop
invariant-loop l =
    (l.p ≤ l.n)
    × ((limit : ℕ) → HoldsPlan l.file l.n limit l.work → StartsAt l.file limit l.max l.counter l.p)
