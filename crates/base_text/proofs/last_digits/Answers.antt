use Rattle.base_text.proofs.Numerals.{digit_more, store_end}
use Rattle.base_text.proofs.last_digits.Goals as goal

pub loop-at-preserved : goal.loop-at-preserved
loop-at-preserved c =
    digit_more c.loop-at.at c.loop-at.rest _ c.loop-at-test.true
    (c.digit-rest.ensures.stored, c.digit-rest.ensures.rest) c.loop-at.invariant

pub returns : goal.returns
returns c = store_end 16 c.loop-at.at c.loop-at.rest _ _ c.loop-at-test.false c.loop-at.invariant
