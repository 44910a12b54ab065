-- `put_pages` writes page after page. The loop's invariant: those written are the first that fit.
-- Assumes nothing.
use Prim.Native.Nat.{ℕ, ◌+◌, ◌*◌, ◌-◌, ◌≤◌}
use lib.ListN.{length as size}
use mathlib.Core.Path.{◌≡◌}
use Rattle.plan_members.specs.Prepared.{HoldsPlan}
use Rattle.call_pages.proofs.Fitted.{Putting}
use Rattle.call_pages.proofs.text.put_pages.Given as goal

abbrev pub invariant-loop-row : goal.invariant-loop-row
invariant-loop-row l =
    (size l.text ≡ size l.initial.text) × (l.length ≤ size l.initial.text) × (l.row ≡ l.p + 60 * l.count)
    × ((limit : ℕ) (ready : HoldsPlan l.file l.n limit l.work)
    → Putting ready l.k l.initial.text l.text l.count l.length l.row)

abbrev pub decreases-loop-row : goal.decreases-loop-row
decreases-loop-row l = l.n - l.row
