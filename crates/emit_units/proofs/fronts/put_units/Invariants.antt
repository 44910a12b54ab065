-- `put_units` walks the units from a given one on. The loop's invariant: those before row `end` are
-- written, and which follow is decided over the rest. Assumes nothing.
use Prim.Native.Nat.{ℕ, ◌-◌, ◌≤◌}
use lib.ListN.{length}
use mathlib.Core.Path.{◌≡◌}
use Rattle.plan_members.specs.Prepared.{HoldsPlan}
use Rattle.emit_units.specs.Units.{StartsAt}
use Rattle.emit_units.proofs.Fitted.{Putting}
use Rattle.emit_units.proofs.fronts.put_units.Given as goal

abbrev pub invariant-loop-count : goal.invariant-loop-count
invariant-loop-count l =
    (l.end ≤ l.n)
    × (l.length ≤ length l.text)
    × ((limit k : ℕ) → HoldsPlan l.file l.n limit l.work → StartsAt l.file limit l.max k l.p
    → Putting l.file limit l.max k l.p l.initial.text l.initial.lengths l.text l.lengths l.count l.length l.end)
