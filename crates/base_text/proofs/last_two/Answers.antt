-- `text::last_two` meets its contract.
use mathlib.Core.Path.{refl}
use lib.Dec.{lit<}
use Rattle.base_text.proofs.FirstDigits.{place_more, place_last}
use Rattle.base_text.proofs.last_two.Goals as goal

pub returns : goal.returns
returns c =
    let k = c.args.k in
    let hk = c.requires.one in
    let m =
    place_more 10 k 2 c.args.n _ (lit< tt) hk (lit< tt) (c.place-n1.ensures.stored, (c.place-n1.ensures.rest, c.place-n1.ensures.less))
    (refl, (c.requires.two, c.requires.holds)) in
    rw c.store_digit.ensures
    (place_last 10 k c.place-n1.result _ hk m.1.0 m)
