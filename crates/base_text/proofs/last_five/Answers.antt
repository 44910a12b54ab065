-- `text::last_five` meets its contract: after the call the digits still to come, laid over the
-- part from their index on, give what all five laid over it would have given.
use mathlib.Core.Path.{refl, ◌∙◌}
use lib.Dec.{lit<}
use Rattle.base_text.proofs.FirstDigits.{place_more}
use Rattle.base_text.proofs.last_five.Goals as goal

pub returns : goal.returns
returns c =
    let m =
    place_more 10 c.args.k 5 c.args.n _ (lit< tt) c.requires.one (lit< tt)
    (c.place-n4.ensures.stored, (c.place-n4.ensures.rest, c.place-n4.ensures.less)) (refl, (c.requires.five, c.requires.holds)) in
    c.last_four.ensures ∙ m.0
