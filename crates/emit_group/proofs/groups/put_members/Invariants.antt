-- `put_members` writes the members one by one. The loop's invariant: the first k are written.
-- Assumes nothing.
use Prim.Native.Nat.{ℕ, ◌-◌, ◌≤◌}
use lib.ListN.{length, take}
use mathlib.Core.Path.{◌≡◌}
use Rattle.plan_members.specs.GroupRows.{IsGroup}
use Rattle.plan_members.specs.Members.{members_of, group_keys}
use Rattle.file_blocks.specs.Parse.{blocks_of}
use Rattle.base_text.specs.Doc.{each}
use Rattle.base_text.specs.Wrote.{Wrote}
use Rattle.emit_group.specs.Groups.{labelled_text}
use Rattle.emit_group.proofs.groups.put_members.Given as goal

abbrev pub invariant-loop-k : goal.invariant-loop-k
invariant-loop-k l =
    ((limit g : ℕ) → IsGroup l.file limit l.work g l.rows
    → Wrote l.initial.out l.at
    (each (labelled_text l.hashing l.file (group_keys limit l.file g))
    (take l.k (members_of limit (blocks_of l.file) g))) l.out l.q)
