-- `text::digits::length_below_hundred` meets its contract.
use mathlib.Core.Path.{sym}
use Prim.Native.Nat.{◌<◌}
use lib.Dec.{lit<, lit≤}
use Rattle.base_text.specs.Doc.{decimal}
use Rattle.base_text.proofs.Numerals.{numeral_one}
use Rattle.base_text.proofs.FirstDigits.{numeral_count}
use Rattle.base_text.proofs.digits.length_below_hundred.Goals as goal

pub returns-then-n-lt10 : goal.returns-then-n-lt10
unfolding decimal
returns-then-n-lt10 c =
    let l : c.args.n < 10 = c.if-n-lt10.true in
    record { count = rw (numeral_one 10 19 c.args.n l); one = lit< tt }

pub returns-else-n-lt10 : goal.returns-else-n-lt10
unfolding decimal
returns-else-n-lt10 c =
    let e = numeral_count 10 20 2 _ (lit< tt) (lit< tt) (lit≤ tt) c.if-n-lt10.false c.requires in
    record { count = sym e; one = lit< tt }
