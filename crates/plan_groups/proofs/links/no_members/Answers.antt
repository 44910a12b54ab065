use Prim.Native.Nat.{ℕ}
use mathlib.Core.Path.{subst, ◌≡◌}
use Rattle.plan_groups.specs.Links.{Filled}
use Rattle.plan_groups.proofs.Linking.{filled_none, filled_more}
use native.Mathlib.Omega.{arith}
use Rattle.plan_groups.proofs.links.no_members.Goals as goal

pub loop-r-init : goal.loop-r-init
loop-r-init c = (omega arith, filled_none _ _)

pub loop-r-preserved : goal.loop-r-preserved
loop-r-preserved c =
    (omega arith, filled_more _ _ _ _ (omega arith) (omega arith) c.loop-r.invariant.1)

pub shape_of-work : goal.shape_of-work
shape_of-work c = c.loop-r.invariant.1.same

pub returns : goal.returns
returns c = let done : c.loop-r.r ≡ c.args.n = omega arith in
    subst (λ (m : ℕ). Filled c.args.n m c.args.work.now
    c.loop-r.work) done c.loop-r.invariant.1
