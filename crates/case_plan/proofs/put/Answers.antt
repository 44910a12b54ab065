use Rattle.std.proofs.Common.{◌≡◌, ℕ, ◌+◌, ◌<◌, List, length, get_or, set, length-set, refl, sym, ap, ◌∙◌, arith}
use native.Mathlib.Numerals.{add-one}
use lib.Seq.{paste, paste-zero, paste-suc}
use Rattle.case_plan.proofs.put.Goals as goal

pub loop-i-init : goal.loop-i-init
loop-i-init c = (refl, paste-zero c.args.list.now c.args.at c.args.lent.now)

pub loop-i-preserved : goal.loop-i-preserved
loop-i-preserved c =
    let inv = c.loop-i.invariant in
    let i = c.loop-i.i in
    let args = c.args in
    let list = args.list.now in
    let lent = args.lent.now in
    let inside : args.at + i < length list = omega arith in (
      simp length-set inv.0,
      ap (set c.loop-i.list (args.at + i)) c.from.ensures
          ∙ ap (λ (l : List ℕ). set l (args.at + i) (get_or lent i 0)) inv.1
          ∙ paste-suc list args.at lent i 0 inside (omega arith)
          ∙ ap (paste list args.at lent) (sym (add-one i)),
    )

pub returns : goal.returns
returns c =
    let done : c.loop-i.i ≡ length c.args.lent.now =
    omega (arith, c.loop-i-test.false, c.loop-i.auto.i-end) in
    c.loop-i.invariant.1 ∙ ap (paste c.args.list.now c.args.at c.args.lent.now) done
