use Rattle.std.proofs.Common.{length, sym, ◌∙◌, arith}
use Rattle.std.proofs.Math.Seq.{ext_get_or}
use Rattle.base_lists.specs.Lists.{range}
use Rattle.base_lists.proofs.Range.{length_range, range_own}
use Rattle.base_forest.proofs.own_roots.Goals as goal

pub returns : goal.returns
returns c =
    let n = length c.args.p.now in
    let known = c.loop-i in
    ext_get_or 0 known.p (range n 0) (omega (arith, length_range n 0))
    (λ k inside. known.invariant k (omega arith) ∙ sym (range_own n k (omega arith)))
