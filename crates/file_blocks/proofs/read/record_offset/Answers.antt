-- `record_offset` finds where a record stands, or that there is none: past the count, past the file's
-- end, and there are the three cases of the definition.
use Rattle.std.proofs.Common.{arith}
use Rattle.file_blocks.proofs.Reading as reading
use Rattle.file_blocks.proofs.read.record_offset.Goals as goal

pub returns-then-trailer_word-i-clause-found : goal.returns-then-trailer_word-i-clause-found
returns-then-trailer_word-i-clause-found c = reading.not_counted _ _ _ 0 (omega arith)

pub returns-then-file-at-clause-found : goal.returns-then-file-at-clause-found
returns-then-file-at-clause-found c =
    reading.past_end _ _ _ _ c.section_start.ensures c.if-file-at.true

pub returns-clause-found : goal.returns-clause-found
returns-clause-found c =
    reading.inside _ _ _ _ (omega arith) c.section_start.ensures c.if-file-at.false
