-- `put_listing` writes the listing. The loop's invariant: the lines of the blocks before block i
-- are written. Assumes nothing.
use Rattle.std.proofs.Common.{◌≡◌, ℕ, ◌-◌, ◌≤◌, List, length, take}
use Rattle.file_records.specs.BlockRecord.{count_sum}
use Rattle.file_blocks.specs.Parse.{blocks_of}
use Rattle.plan_groups.specs.Plan.{plan}
use Rattle.base_text.specs.Doc.{Doc, text, ◌▸◌}
use Rattle.base_text.specs.Wrote.{Wrote}
use Rattle.call_listing.specs.Listing.{lines_from}
use Rattle.call_listing.specs.Steps.{HoldsGroups}
use Rattle.call_listing.proofs.lines.put_listing.Given as goal

abbrev pub header : Doc
header = text "key group exits\n"

-- the header and the lines of the first i blocks
abbrev pub lines_to : List ℕ → ℕ → ℕ → Doc
lines_to f limit i = header ▸ lines_from (plan limit (blocks_of f)) 0 (take i (blocks_of f))

abbrev pub invariant-loop-i : goal.invariant-loop-i
invariant-loop-i l = (l.i ≤ l.n) × (l.first ≡ count_sum l.file l.i)
    × (length l.out ≡ length l.initial.out)
    × ((limit : ℕ) → HoldsGroups l.file l.n limit l.work → (o : List ℕ) → Wrote o 0 header l.initial.out l.initial.at
    → Wrote o 0 (lines_to l.file limit l.i) l.out l.at)
