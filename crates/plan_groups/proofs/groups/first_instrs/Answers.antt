use Rattle.plan_groups.proofs.Grouping as grouping
use Prim.Native.Nat.{ℕ}
use mathlib.Core.Path.{◌≡◌, subst}
use native.Mathlib.Omega.{arith}
use Rattle.plan_groups.proofs.groups.first_instrs.Goals as goal

pub loop-i-init : goal.loop-i-init
loop-i-init c = grouping.counting_none _ _ _

pub count_of-sum-requires : goal.count_of-sum-requires
count_of-sum-requires c =
    (c.requires.1, omega (arith, c.requires.0.2))

pub loop-i-preserved : goal.loop-i-preserved
loop-i-preserved c =
    grouping.counting_more _ _ _ _ _ _ _ c.requires.0.0 c.requires.0.2 c.requires.1
    c.loop-i-test.true c.count_of-sum.ensures.count
    c.loop-i.invariant

pub shape_of-work : goal.shape_of-work
shape_of-work c = c.loop-i.invariant.same

pub returns : goal.returns
returns c =
    let done : c.loop-i.i ≡ c.args.n = omega arith in
    grouping.counted_all _ _ _ _ _
    (subst (λ (m : ℕ). grouping.Counting c.args.file.now
    c.args.n
    c.args.work.now c.loop-i.sum m
    c.loop-i.work) done c.loop-i.invariant)
