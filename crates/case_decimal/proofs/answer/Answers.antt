-- What the printer promises, as a number and a text that are handed over.
use Rattle.case_decimal.proofs.answer.Goals as goal

pub returns : goal.returns
returns c =
    rw (c.put_dec-after.ensures.next, c.put_dec-after.ensures.bytes)
