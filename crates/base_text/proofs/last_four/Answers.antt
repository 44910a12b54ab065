-- `text::last_four` meets its contract: after the call the digits still to come, laid over the
-- part from their index on, give what all four laid over it would have given.
use mathlib.Core.Path.{refl, ◌∙◌}
use lib.Dec.{lit<}
use Rattle.base_text.proofs.FirstDigits.{place_more}
use Rattle.base_text.proofs.last_four.Goals as goal

pub returns : goal.returns
returns c =
    let m =
    place_more 10 c.args.k 4 c.args.n _ (lit< tt) c.requires.one (lit< tt)
    (c.place-n3.ensures.stored, (c.place-n3.ensures.rest, c.place-n3.ensures.less)) (refl, (c.requires.four, c.requires.holds)) in
    c.last_three.ensures ∙ m.0
