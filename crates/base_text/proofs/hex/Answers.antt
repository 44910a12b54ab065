-- `text::hex` meets its contract: as many of the last digits as the number has are its digits.
use mathlib.Core.Path.{refl}
use Rattle.base_text.specs.Doc.{hexadecimal, print}
use Rattle.base_text.proofs.Printers.{measured, stored}
use Rattle.base_text.proofs.hex.Goals as goal

pub returns-then-part-eq0 : goal.returns-then-part-eq0
unfolding print
returns-then-part-eq0 c = measured c.if-part-eq0.true c.hexadecimal_length-k.ensures

pub returns : goal.returns
unfolding print hexadecimal
returns c =
    stored 16 16 c.args.n refl c.hexadecimal_length-k.ensures
    c.last_digits.ensures
