-- `put_lines` goes from block to block. The loop's invariant: which lines follow is decided over
-- those from block b on.
-- Assumes nothing.
use Prim.Native.Nat.{◌+◌, ◌-◌, ◌≤◌, ◌<◌}
use lib.ListN.{length as size, drop}
use mathlib.Core.Path.{◌≡◌}
use Rattle.file_records.specs.BlockRecord.{count_at, count_sum}
use Rattle.file_records.specs.Trailer.{block_start}
use Rattle.file_blocks.specs.Parse.{blocks_of}
use Rattle.lower_reasons.specs.Lines.{lines_of, lines_from}
use Rattle.emit_reasons.specs.Steps.{Putting}
use Rattle.call_reasons.proofs.Rest.{rest_from}
use Rattle.call_reasons.proofs.lines.put_lines.Given as goal

abbrev pub invariant-loop-b : goal.invariant-loop-b
invariant-loop-b l =
    (size l.text ≡ size l.initial.text) × (l.length ≤ size l.initial.text) × (l.b ≤ l.n) × (l.next ≡ count_sum l.file l.b)
    × (l.b < l.n → l.skip ≤ count_at l.file (block_start l.file l.b))
    × Putting l.initial.text (lines_from (l.first + l.index) (blocks_of l.file))
    (lines_of (l.next + l.skip) (drop l.skip (rest_from l.file l.b))) l.text l.length
