-- `put_cases` writes the cases of a group's members. The loop's invariant: those of the first k are
-- written. Assumes nothing.
use Prim.Native.Nat.{ℕ, ◌-◌, ◌≤◌}
use lib.ListN.{length, take}
use mathlib.Core.List.{[], ◌∷◌}
use mathlib.Core.Path.{◌≡◌}
use Rattle.c_tree.specs.Print.{cases_text}
use Rattle.plan_members.specs.Members.{group_keys}
use Rattle.base_text.specs.Doc.{Doc}
use Rattle.base_text.specs.Wrote.{Wrote}
use Rattle.emit_tables.proofs.Around.{numbered}
use Rattle.plan_members.specs.GroupRows.{IsGroup}
use Rattle.emit_tables.proofs.entries.put_cases.Given as goal

abbrev pub case : ℕ → ℕ → Doc
case n key = cases_text n (key ∷ [])

abbrev pub invariant-loop-k : goal.invariant-loop-k
invariant-loop-k l =
    (limit g : ℕ) → IsGroup l.file limit l.work g l.rows
    → Wrote l.initial.out l.at (numbered case 0 (take l.k (group_keys limit l.file g))) l.out l.q
