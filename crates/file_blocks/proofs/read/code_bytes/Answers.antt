-- `code_bytes` gives the slice of the file at a record's offset. The definition's three cases:
-- absent, inside the file, past its end.
use borrow.Author.Tests.{not-true, not-false}
use Rattle.file_blocks.proofs.Reading as reading
use Rattle.file_blocks.proofs.read.code_bytes.Goals as goal

pub returns-then-not-block : goal.returns-then-not-block
returns-then-not-block c =
    reading.no_code _ _ _ c.instrs_length.ensures.length
    (not-true _ c.if-not-block.true)

pub returns-then-end-file : goal.returns-then-end-file
returns-then-end-file c =
    reading.code_there _ _ _ c.instrs_length.ensures.length
    (not-false _ c.if-not-block.false) c.if-end-file.true

pub returns-else-end-file : goal.returns-else-end-file
returns-else-end-file c =
    reading.code_past _ _ _ c.instrs_length.ensures.length
    (not-false _ c.if-not-block.false) c.if-end-file.false
