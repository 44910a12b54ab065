-- `put_unit` walks the groups. The loop's invariant: the groups passed make the unit so far, and its
-- text was put over the front of `out`.
-- Assumes nothing.
use Prim.Native.Nat.{ℕ, ◌-◌, ◌≤◌}
use lib.ListN.{length}
use mathlib.Core.Path.{◌≡◌}
use Rattle.plan_members.specs.Members.{start_of}
use Rattle.plan_members.specs.Prepared.{HoldsPlan}
use Rattle.file_blocks.specs.Parse.{blocks_of}
use Rattle.plan_groups.specs.Plan.{groups}
use Rattle.emit_units.proofs.Written.{Making}
use Rattle.emit_units.proofs.extents.put_unit.Given as goal

abbrev pub invariant-loop-q : goal.invariant-loop-q
invariant-loop-q l =
    (l.q ≤ l.n)
    × (length l.out ≡ length l.initial.out)
    × ((limit g : ℕ) → HoldsPlan l.file l.n limit l.work → g ≤ length (groups limit (blocks_of l.file))
    → l.p ≡ start_of (groups limit (blocks_of l.file)) g
    → Making l.hashing l.file limit l.max g l.q l.initial.at l.at l.initial.out l.out)

abbrev pub decreases-loop-q : goal.decreases-loop-q
decreases-loop-q l = l.n - l.q
