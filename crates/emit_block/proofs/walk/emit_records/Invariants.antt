-- `emit_records` writes a block record by record. The loop's invariant: the records before index j
-- are written. Assumes nothing.
use Rattle.std.proofs.Common.{◌≡◌, ℕ, ◌-◌, ◌≤◌, List, length}
use Rattle.lower_forms.specs.Forms.{Body}
use Rattle.emit_block.specs.Walk.{IsMemberBlock, Walked}
use Rattle.emit_block.proofs.walk.emit_records.Given as goal

abbrev pub invariant-loop-j : goal.invariant-loop-j
invariant-loop-j l =
    ((ks : List ℕ) (b : Body) → IsMemberBlock l.file l.work l.m ks b
    → Walked l.file l.m.block l.m.first ks b l.initial.out l.at l.j l.cycles l.out l.p)
