-- `trailer_right` tells whether the trailer keeps its rules: each early return breaks one of them,
-- and where five hold the file length decides.
use Rattle.file_records.proofs.Rules as rules
use native.Mathlib.Omega.{arith}
use Rattle.file_records.proofs.trailer.trailer_right.Goals as goal

pub returns-then-trailer_word-ne1 : goal.returns-then-trailer_word-ne1
returns-then-trailer_word-ne1 c = rules.wrong_edition _ (omega arith)

pub returns-then-trailer_word-blocks : goal.returns-then-trailer_word-blocks
returns-then-trailer_word-blocks c = rules.wrong_blocks _ (omega arith)

pub returns-then-instrs_back-blocks : goal.returns-then-instrs_back-blocks
returns-then-instrs_back-blocks c = rules.wrong_instrs _ (omega arith)

pub returns-then-trailer_word-file : goal.returns-then-trailer_word-file
returns-then-trailer_word-file c = rules.wrong_code _ (omega arith)

pub returns-then-trailer_word-instrs_back : goal.returns-then-trailer_word-instrs_back
returns-then-trailer_word-instrs_back c = rules.wrong_touch _ (omega arith)

pub returns : goal.returns
returns c =
    rw c.trailer_word-5.ensures
    (rules.right_but_length _ (omega arith) (omega arith) (omega arith) (omega arith) (omega arith))
