-- `put_line` writes a sentence and a newline, or nothing.
-- Assumes nothing.
use borrow.Author.Rules.{rules}
use mathlib.Core.Path.{refl}
use Rattle.base_text.proofs.Laws.{none, seq, wrote_as}
use Rattle.emit_sentences.proofs.put_line.Goals as goal

pub returns-in-None : goal.returns-in-None
returns-in-None c = rw c.in-None.is (none (search rules) (search rules))

pub returns-in-Some : goal.returns-in-Some
returns-in-Some c =
    rw c.in-Some.is
    (wrote_as (seq c.put_sentence-p.ensures c.put.ensures) refl)
