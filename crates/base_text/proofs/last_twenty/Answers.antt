-- `text::last_twenty` meets its contract: after each call the digits still to come, laid over
-- the part from their index on, give what all twenty laid over it would have given.
use mathlib.Core.Path.{refl, ◌∙◌}
use lib.Dec.{lit<}
use Rattle.base_text.proofs.FirstDigits.{place_more}
use Rattle.base_text.proofs.last_twenty.Goals as goal

pub returns : goal.returns
returns c =
    let k = c.args.k in
    let hk = c.requires.one in
    let m1 =
    place_more 10 k 20 c.args.n _ (lit< tt) hk (lit< tt) (c.place-n19.ensures.stored, (c.place-n19.ensures.rest, c.place-n19.ensures.less))
    (refl, (c.requires.twenty, c.requires.holds)) in
    let m2 =
    place_more 10 k 19 c.place-n19.result _ (lit< tt) hk (lit< tt) (c.place-n18.ensures.stored, (c.place-n18.ensures.rest, c.place-n18.ensures.less)) m1 in
    let m3 =
    place_more 10 k 18 c.place-n18.result _ (lit< tt) hk (lit< tt) (c.place-n17.ensures.stored, (c.place-n17.ensures.rest, c.place-n17.ensures.less)) m2 in
    let m4 =
    place_more 10 k 17 c.place-n17.result _ (lit< tt) hk (lit< tt) (c.place-n16.ensures.stored, (c.place-n16.ensures.rest, c.place-n16.ensures.less)) m3 in
    let m5 =
    place_more 10 k 16 c.place-n16.result _ (lit< tt) hk (lit< tt) (c.place-n15.ensures.stored, (c.place-n15.ensures.rest, c.place-n15.ensures.less)) m4 in
    c.last_fifteen.ensures ∙ m5.0
