use mathlib.Core.Path.{sym, ◌∙◌}
use native.Mathlib.Omega.{arith}
use lib.Dec.{lit<}
use Rattle.base_text.specs.Doc.{hexadecimal}
use Rattle.base_text.proofs.Numerals.{count_more, count_end}
use Rattle.base_text.proofs.digits.hexadecimal_length.Goals as goal

pub loop-rest-preserved : goal.loop-rest-preserved
loop-rest-preserved c =
    let i = c.loop-rest.invariant in
    let m =
    count_more 16 16 c.loop-rest.k c.loop-rest.rest (lit< tt) (omega arith)
    i.1 in
    (m.0, m.1, i.2 ∙ m.2)

pub returns : goal.returns
unfolding hexadecimal
returns c =
    sym
    (c.loop-rest.invariant.2
    ∙ count_end 16 16 c.loop-rest.k c.loop-rest.rest (omega arith)
    c.loop-rest.invariant.0)
