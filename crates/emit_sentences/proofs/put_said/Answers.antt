-- `put_said` writes a sentence, or nothing.
-- Assumes nothing.
use borrow.Author.Rules.{rules}
use Rattle.base_text.proofs.Laws.{none}
use Rattle.emit_sentences.proofs.put_said.Goals as goal

pub returns-in-None : goal.returns-in-None
returns-in-None c = rw c.in-None.is (none (search rules) (search rules))

pub returns-in-Some : goal.returns-in-Some
returns-in-Some c = rw c.in-Some.is
    c.put_sentence.ensures
