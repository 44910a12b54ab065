-- `put_externs` writes the declarations. The loop's invariant: those of the blocks before block i
-- are written. Assumes nothing.
use Prim.Native.Nat.{ℕ, ◌-◌, ◌≤◌}
use lib.ListN.{take}
use Rattle.c_tree.specs.Print.{top_text}
use Rattle.c_tree.specs.Stmt.{extern}
use Rattle.base_text.specs.Doc.{each}
use Rattle.base_text.specs.Wrote.{Wrote}
use Rattle.file_keys.specs.Order.{block_keys}
use Rattle.emit_tables.proofs.ends.put_externs.Given as goal

abbrev pub invariant-loop-i : goal.invariant-loop-i
invariant-loop-i l =
    Wrote l.initial.out l.at (each (λ (k : ℕ). top_text (extern k)) (take l.i (block_keys l.file))) l.out l.p
