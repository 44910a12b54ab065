-- `put_lengths` walks the units from a given one on. The loop's invariant: the lengths of those
-- before row `end` are told, and which follow is decided over the rest. Assumes nothing.
use Prim.Native.Nat.{ℕ, ◌-◌, ◌≤◌}
use lib.ListN.{length}
use mathlib.Core.Path.{◌≡◌}
use Rattle.plan_members.specs.Prepared.{HoldsPlan}
use Rattle.lower_units.specs.Units.{TranslationUnit}
use Rattle.emit_units.specs.Units.{StartsAt}
use Rattle.emit_units.proofs.Fitted.{Going}
use Rattle.emit_units.proofs.fronts.put_lengths.Given as goal

abbrev pub invariant-loop-count : goal.invariant-loop-count
invariant-loop-count l =
    (l.end ≤ l.n)
    × ((limit k : ℕ) → HoldsPlan l.file l.n limit l.work → StartsAt l.file limit l.max k l.p
    → Going (λ (u : TranslationUnit). 0) 0 l.file limit l.max k l.p l.initial.lengths l.lengths l.count l.end)
