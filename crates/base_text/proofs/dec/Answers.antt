-- `text::dec` meets its contract.
use mathlib.Core.Path.{◌≡◌}
use Prim.Native.Nat.{ℕ, ◌^◌, ◌<◌}
use native.Mathlib.Nat.{lt_of_lt_of_le}
use native.Mathlib.Omega.{arith}
use lib.Dec.{lit<, lit≤}
use lib.ListN.{length}
use Rattle.base_text.specs.Doc.{decimal, print}
use Rattle.base_text.proofs.FirstDigits.{numeral_some, numeral_holds}
use Rattle.base_text.proofs.Printers.{measured, last_stored}
use Rattle.base_text.proofs.dec.Goals as goal

-- twenty digits hold a u64
below_twenty : {n : ℕ} → n < 2 ^ 64 → n < 10 ^ 20
below_twenty h = lt_of_lt_of_le h (lit≤ tt)

-- a u64 has a digit, and is below the power with as many zeros as it has digits
size : (n m : ℕ) {k : ℕ} → n < 2 ^ 64 → n < 10 ^ m → k ≡ length (decimal n)
    → (0 < k) × ((n < 10 ^ m) × (n < 10 ^ k))
unfolding decimal
size n m {k} h l e =
    (rw e (numeral_some 10 19 n), (l, rw e (numeral_holds 10 20 n (lit< tt) (below_twenty h))))

pub returns-then-part-eq0 : goal.returns-then-part-eq0
unfolding print
returns-then-part-eq0 c = measured c.if-part-eq0.true c.decimal_length-k.ensures

pub last_two-requires : goal.last_two-requires
last_two-requires c =
    let all = size c.args.n 2 c.ranges.n.fits (omega arith) c.decimal_length-k.ensures in
    record { one = all.0; two = all.1.0; holds = all.1.1 }

pub last_three-requires : goal.last_three-requires
last_three-requires c =
    let all = size c.args.n 3 c.ranges.n.fits (omega arith) c.decimal_length-k.ensures in
    record { one = all.0; three = all.1.0; holds = all.1.1 }

pub last_four-requires : goal.last_four-requires
last_four-requires c =
    let all = size c.args.n 4 c.ranges.n.fits (omega arith) c.decimal_length-k.ensures in
    record { one = all.0; four = all.1.0; holds = all.1.1 }

pub last_five-requires : goal.last_five-requires
last_five-requires c =
    let all = size c.args.n 5 c.ranges.n.fits (omega arith) c.decimal_length-k.ensures in
    record { one = all.0; five = all.1.0; holds = all.1.1 }

pub last_ten-requires : goal.last_ten-requires
last_ten-requires c =
    let all = size c.args.n 10 c.ranges.n.fits (omega arith) c.decimal_length-k.ensures in
    record { one = all.0; ten = all.1.0; holds = all.1.1 }

pub last_fifteen-requires : goal.last_fifteen-requires
last_fifteen-requires c =
    let all = size c.args.n 15 c.ranges.n.fits (omega arith) c.decimal_length-k.ensures in
    record { one = all.0; fifteen = all.1.0; holds = all.1.1 }

pub last_twenty-requires : goal.last_twenty-requires
last_twenty-requires c =
    let f = c.ranges.n.fits in
    let all = size c.args.n 20 f (below_twenty f) c.decimal_length-k.ensures in
    record { one = all.0; twenty = all.1.0; holds = all.1.1 }

pub returns-then-n-lt100 : goal.returns-then-n-lt100
returns-then-n-lt100 c =
    last_stored c.args.n 1 (omega arith) c.decimal_length-k.ensures
    c.last_two.ensures

pub returns-then-n-lt1000 : goal.returns-then-n-lt1000
returns-then-n-lt1000 c =
    last_stored c.args.n 2 (omega arith) c.decimal_length-k.ensures
    c.last_three.ensures

pub returns-then-n-lt10000 : goal.returns-then-n-lt10000
returns-then-n-lt10000 c =
    last_stored c.args.n 3 (omega arith) c.decimal_length-k.ensures
    c.last_four.ensures

pub returns-then-n-lt100000 : goal.returns-then-n-lt100000
returns-then-n-lt100000 c =
    last_stored c.args.n 4 (omega arith) c.decimal_length-k.ensures
    c.last_five.ensures

pub returns-then-n-lt10000000000 : goal.returns-then-n-lt10000000000
returns-then-n-lt10000000000 c =
    last_stored c.args.n 9 (omega arith) c.decimal_length-k.ensures
    c.last_ten.ensures

pub returns-then-n-lt1000000000000000 : goal.returns-then-n-lt1000000000000000
returns-then-n-lt1000000000000000 c =
    last_stored c.args.n 14 (omega arith) c.decimal_length-k.ensures
    c.last_fifteen.ensures

pub returns-else-n-lt1000000000000000 : goal.returns-else-n-lt1000000000000000
returns-else-n-lt1000000000000000 c =
    last_stored c.args.n 19 (below_twenty c.ranges.n.fits) c.decimal_length-k.ensures
    c.last_twenty.ensures
