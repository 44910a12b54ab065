-- `least` takes i where it has the key of the number before it and is lower.
-- Assumes nothing.
use mathlib.Core.Path.{sym, ◌∙◌}
use borrow.Author.Tests.{eq-eqb, ne_eqb, lt-ltb, le-ltb}
use Rattle.file_keys.proofs.find.least.Goals as goal

pub returns-then-key_of : goal.returns-then-key_of
returns-then-key_of c =
    rw (ne_eqb _ _ (λ e. c.if-key_of.true (c.key_of.ensures ∙ e
    ∙ sym c.key_of-2.ensures)))

pub returns-then-i-best : goal.returns-then-i-best
returns-then-i-best c =
    let same = sym c.key_of.ensures ∙ c.if-key_of.false
    ∙ c.key_of-2.ensures in
    rw (eq-eqb _ _ same, lt-ltb _ _ c.if-i-best.true)

pub returns-else-i-best : goal.returns-else-i-best
returns-else-i-best c =
    let same = sym c.key_of.ensures ∙ c.if-key_of.false
    ∙ c.key_of-2.ensures in
    rw (eq-eqb _ _ same, le-ltb _ _ c.if-i-best.false)
