-- `put_page` writes a page. The loop's invariant: the lines of its rows before row i are written.
-- Assumes nothing.
use Prim.Native.Nat.{ℕ, ◌-◌, ◌≤◌}
use lib.ListN.{length, take}
use mathlib.Core.List.{List}
use mathlib.Core.Path.{◌≡◌}
use Rattle.base_text.specs.Doc.{each}
use Rattle.base_text.specs.Wrote.{Wrote}
use Rattle.file_blocks.specs.Parse.{blocks_of}
use Rattle.plan_members.specs.Prepared.{HoldsPlan}
use Rattle.call_pages.specs.Page.{Row, row_line}
use Rattle.call_pages.specs.Steps.{page_on}
use Rattle.call_pages.proofs.text.put_page.Given as goal

-- the rows of a page
abbrev pub rows_on : List ℕ → ℕ → ℕ → ℕ → List Row
rows_on f limit k p = (page_on limit (blocks_of f) k p).rows

abbrev pub invariant-loop-i : goal.invariant-loop-i
invariant-loop-i l = (l.i ≤ l.rows) × (length l.out ≡ length l.initial.out)
    × ((limit : ℕ) → HoldsPlan l.file l.n limit l.work
    → Wrote l.initial.out l.initial.next (each (row_line (blocks_of l.file)) (take l.i (rows_on l.file limit l.k l.p))) l.out l.next)
