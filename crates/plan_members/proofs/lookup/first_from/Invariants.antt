-- `first_from` halves what is left of the members. The loop's invariant: the keys before low are
-- below the key, those from high on are not. Assumes nothing.
use Prim.Native.Nat.{ℕ, ◌+◌, ◌-◌, ◌≤◌}
use Rattle.plan_members.specs.Members.{group_keys}
use Rattle.plan_members.specs.GroupRows.{IsGroup}
use Rattle.plan_members.specs.Lookup.{KeyBetween}
use Rattle.plan_members.proofs.lookup.first_from.Given as goal

abbrev pub invariant-loop-low : goal.invariant-loop-low
invariant-loop-low l =
    (l.low ≤ l.high) × (l.rows.first + l.high ≤ l.rows.end)
    × ((limit g : ℕ) → IsGroup l.file limit l.work g l.rows
    → KeyBetween (group_keys limit l.file g) l.key l.low l.high)

abbrev pub decreases-loop-low : goal.decreases-loop-low
decreases-loop-low l = l.high - l.low
