use Rattle.std.proofs.Common.{◌≡◌, sym, arith}
use native.Mathlib.Nat.{lt_of_lt_of_le}
use lib.Dec.{lit<, lit≤}
use Rattle.base_text.specs.Doc.{decimal}
use Rattle.base_text.proofs.FirstDigits.{numeral_count}
use Rattle.base_text.proofs.digits.decimal_length.Goals as goal

pub returns-then-n-power : goal.returns-then-n-power
unfolding decimal
returns-then-n-power c =
    sym
    (numeral_count 10 20 _ _ (lit< tt) (omega arith) (omega arith) c.loop-k.invariant
    (rw (← c.power.ensures) c.if-n-power.true))

pub returns : goal.returns
unfolding decimal
returns c =
    let e : c.loop-k.k ≡ 20 = omega arith in
    sym
    (numeral_count 10 20 _ _ (lit< tt) (omega arith) (omega arith) (rw e at c.loop-k.invariant)
    (lt_of_lt_of_le c.ranges.n.fits (lit≤ tt)))
