-- `text::hex8` meets its contract: after each call the digits still to come, laid over the part,
-- give what all eight laid over it would have given.
use mathlib.Core.Path.{refl, sym}
use lib.Dec.{lit<, lit≤}
use Rattle.base_text.specs.Doc.{hexadecimal8, print}
use Rattle.base_text.proofs.Numerals.{length_fixed, digit_more, store_end}
use Rattle.base_text.proofs.Printers.{measured, spelt}
use Rattle.base_text.proofs.hex8.Goals as goal

pub returns-then-part-eq0 : goal.returns-then-part-eq0
unfolding print hexadecimal8
returns-then-part-eq0 c = measured c.if-part-eq0.true (sym (length_fixed 16 8 c.args.n))

pub returns : goal.returns
unfolding print hexadecimal8
returns c =
    let n = c.args.n in
    let e1 = digit_more 8 n _ (lit< tt) (c.digit-n1.ensures.stored, c.digit-n1.ensures.rest) refl in
    let e2 = digit_more 7 c.digit-n1.result _ (lit< tt) (c.digit-n2.ensures.stored, c.digit-n2.ensures.rest) e1 in
    let e3 = digit_more 6 c.digit-n2.result _ (lit< tt) (c.digit-n3.ensures.stored, c.digit-n3.ensures.rest) e2 in
    let e4 = digit_more 5 c.digit-n3.result _ (lit< tt) (c.digit-n4.ensures.stored, c.digit-n4.ensures.rest) e3 in
    let e5 = digit_more 4 c.digit-n4.result _ (lit< tt) (c.digit-n5.ensures.stored, c.digit-n5.ensures.rest) e4 in
    let e6 = digit_more 3 c.digit-n5.result _ (lit< tt) (c.digit-n6.ensures.stored, c.digit-n6.ensures.rest) e5 in
    let e7 = digit_more 2 c.digit-n6.result _ (lit< tt) (c.digit-n7.ensures.stored, c.digit-n7.ensures.rest) e6 in
    let e8 = digit_more 1 c.digit-n7.result _ (lit< tt) (c.digit.ensures.stored, c.digit.ensures.rest) e7 in
    spelt 16 8 n refl (store_end 16 0 _ _ _ (lit≤ tt) e8)
