-- `text::last_ten` meets its contract: after each call the digits still to come, laid over
-- the part from their index on, give what all ten laid over it would have given.
use mathlib.Core.Path.{refl, ◌∙◌}
use lib.Dec.{lit<}
use Rattle.base_text.proofs.FirstDigits.{place_more}
use Rattle.base_text.proofs.last_ten.Goals as goal

pub returns : goal.returns
returns c =
    let k = c.args.k in
    let hk = c.requires.one in
    let m1 =
    place_more 10 k 10 c.args.n _ (lit< tt) hk (lit< tt) (c.place-n9.ensures.stored, (c.place-n9.ensures.rest, c.place-n9.ensures.less))
    (refl, (c.requires.ten, c.requires.holds)) in
    let m2 =
    place_more 10 k 9 c.place-n9.result _ (lit< tt) hk (lit< tt) (c.place-n8.ensures.stored, (c.place-n8.ensures.rest, c.place-n8.ensures.less)) m1 in
    let m3 =
    place_more 10 k 8 c.place-n8.result _ (lit< tt) hk (lit< tt) (c.place-n7.ensures.stored, (c.place-n7.ensures.rest, c.place-n7.ensures.less)) m2 in
    let m4 =
    place_more 10 k 7 c.place-n7.result _ (lit< tt) hk (lit< tt) (c.place-n6.ensures.stored, (c.place-n6.ensures.rest, c.place-n6.ensures.less)) m3 in
    let m5 =
    place_more 10 k 6 c.place-n6.result _ (lit< tt) hk (lit< tt) (c.place-n5.ensures.stored, (c.place-n5.ensures.rest, c.place-n5.ensures.less)) m4 in
    c.last_five.ensures ∙ m5.0
