-- By the first value that differs.
-- Assumes nothing.
use borrow.Author.Tests.{eq-eqb, ne_eqb}
use Rattle.call_answers.proofs.same_values.Goals as goal

pub returns-then-given-found : goal.returns-then-given-found
returns-then-given-found c = rw (ne_eqb _ _ c.if-given-found.true)

pub returns-then-given-found-2 : goal.returns-then-given-found-2
returns-then-given-found-2 c = rw (eq-eqb _ _ c.if-given-found.false, ne_eqb _ _ c.if-given-found-2.true)

pub returns : goal.returns
returns c =
    rw (eq-eqb _ _ c.if-given-found.false, eq-eqb _ _ c.if-given-found-2.false)
