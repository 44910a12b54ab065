-- `put_rows` writes the rows. The loop's invariant: those of the blocks before block i are written.
-- Assumes nothing.
use Prim.Native.Nat.{◌-◌, ◌≤◌}
use lib.ListN.{take}
use Rattle.c_tree.specs.Print.{row_text}
use Rattle.base_text.specs.Doc.{each}
use Rattle.base_text.specs.Wrote.{Wrote}
use Rattle.file_keys.specs.Order.{block_keys}
use Rattle.emit_tables.proofs.ends.put_rows.Given as goal

abbrev pub invariant-loop-i : goal.invariant-loop-i
invariant-loop-i l =
    Wrote l.initial.out l.at (each row_text (take l.i (block_keys l.file))) l.out l.p
