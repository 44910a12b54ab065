-- `put_rest` writes line after line. The loop's invariant: which follow is decided over the lines
-- of the instructions from index j on.
-- Assumes nothing.
use Prim.Native.Nat.{ℕ, ◌+◌, ◌-◌, ◌≤◌}
use lib.ListN.{length as size, drop}
use mathlib.Core.List.{List, ◌++◌}
use mathlib.Core.Path.{◌≡◌}
use Rattle.file_blocks.specs.Read.{instrs_of}
use Rattle.lower_reasons.specs.Lines.{Line, lines_of}
use Rattle.lower_reasons.specs.Said.{said_each}
use Rattle.emit_reasons.specs.Steps.{Putting}
use Rattle.emit_reasons.proofs.lines.put_rest.Given as goal

abbrev pub invariant-loop-j : goal.invariant-loop-j
invariant-loop-j l =
    (l.length ≤ size l.initial.text)
    × ((whole : List ℕ) (all after : List Line)
    → Putting whole all
    (lines_of (l.first + l.index) (said_each l.region (drop l.index (instrs_of l.file l.block l.first))) ++ after)
    l.initial.text l.at
    → Putting whole all
    (lines_of (l.first + l.j) (said_each l.region (drop l.j (instrs_of l.file l.block l.first))) ++ after) l.text
    l.length)
