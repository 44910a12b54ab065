-- `text::last_fifteen` meets its contract: after each call the digits still to come, laid over
-- the part from their index on, give what all fifteen laid over it would have given.
use mathlib.Core.Path.{refl, ◌∙◌}
use lib.Dec.{lit<}
use Rattle.base_text.proofs.FirstDigits.{place_more}
use Rattle.base_text.proofs.last_fifteen.Goals as goal

pub returns : goal.returns
returns c =
    let k = c.args.k in
    let hk = c.requires.one in
    let m1 =
    place_more 10 k 15 c.args.n _ (lit< tt) hk (lit< tt) (c.place-n14.ensures.stored, (c.place-n14.ensures.rest, c.place-n14.ensures.less))
    (refl, (c.requires.fifteen, c.requires.holds)) in
    let m2 =
    place_more 10 k 14 c.place-n14.result _ (lit< tt) hk (lit< tt) (c.place-n13.ensures.stored, (c.place-n13.ensures.rest, c.place-n13.ensures.less)) m1 in
    let m3 =
    place_more 10 k 13 c.place-n13.result _ (lit< tt) hk (lit< tt) (c.place-n12.ensures.stored, (c.place-n12.ensures.rest, c.place-n12.ensures.less)) m2 in
    let m4 =
    place_more 10 k 12 c.place-n12.result _ (lit< tt) hk (lit< tt) (c.place-n11.ensures.stored, (c.place-n11.ensures.rest, c.place-n11.ensures.less)) m3 in
    let m5 =
    place_more 10 k 11 c.place-n11.result _ (lit< tt) hk (lit< tt) (c.place-n10.ensures.stored, (c.place-n10.ensures.rest, c.place-n10.ensures.less)) m4 in
    c.last_ten.ensures ∙ m5.0
