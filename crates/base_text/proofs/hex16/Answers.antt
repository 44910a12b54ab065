-- `text::hex16` meets its contract.
use mathlib.Core.Path.{refl, sym}
use Rattle.base_text.specs.Doc.{hexadecimal16, print}
use Rattle.base_text.proofs.Numerals.{length_fixed}
use Rattle.base_text.proofs.Printers.{measured, spelt}
use Rattle.base_text.proofs.hex16.Goals as goal

pub returns-then-part-eq0 : goal.returns-then-part-eq0
unfolding print hexadecimal16
returns-then-part-eq0 c = measured c.if-part-eq0.true (sym (length_fixed 16 16 c.args.n))

pub returns : goal.returns
unfolding print hexadecimal16
returns c =
    spelt 16 16 c.args.n refl
    c.last_digits.ensures
