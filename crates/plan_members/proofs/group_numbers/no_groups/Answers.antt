use native.Mathlib.Omega.{arith}
use Rattle.plan_members.proofs.Groups.{zeroed_none, zeroed_more, groups_none}
use Rattle.plan_members.proofs.group_numbers.no_groups.Goals as goal

pub loop-i-init : goal.loop-i-init
loop-i-init c = (omega arith, c.requires.0, c.requires.1, zeroed_none _ _)

pub bounds-work-n : goal.bounds-work-n
bounds-work-n c = omega (arith, c.loop-i.invariant.3.same)

pub loop-i-preserved : goal.loop-i-preserved
loop-i-preserved c = let inv = c.loop-i.invariant in
    (omega arith, inv.1, inv.2, zeroed_more _ _ _ _ (omega arith) inv.1 inv.3)

pub shape_of-work : goal.shape_of-work
shape_of-work c = c.loop-i.invariant.3.same

pub returns : goal.returns
returns c = groups_none _ _ _ _ (omega arith) c.loop-i.invariant.3
