-- `trailer_word` reads a word of the trailer, or gives 0 for a file under 32 bytes, as the
-- definition does.
use Rattle.file_records.specs.Trailer.{trailer_word}
use borrow.Author.Tests.{le-leb, lt-leb}
use Rattle.file_records.proofs.trailer.trailer_word.Goals as goal

pub returns-then-file-lt32 : goal.returns-then-file-lt32
unfolding trailer_word
returns-then-file-lt32 c = simp (lt-leb _ _ c.if-file-lt32.true)

pub returns : goal.returns
unfolding trailer_word
returns c = simp (le-leb _ _ c.if-file-lt32.false) c.word.ensures
