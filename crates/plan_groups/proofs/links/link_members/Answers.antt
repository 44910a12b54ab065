use mathlib.Core.Path.{◌≡◌, ◌∙◌}
use Rattle.plan_groups.proofs.Linking as linking
use native.Mathlib.Omega.{arith}
use Rattle.plan_groups.proofs.links.link_members.Goals as goal

pub loop-left-init : goal.loop-left-init
loop-left-init c =
    linking.linking_none _ _ _ c.requires.n_in_bounds
    c.requires.all_once.0 c.requires.all_once.1 c.no_members.ensures

pub bounds-work-left : goal.bounds-work-left
bounds-work-left c =
    let inv = c.loop-left.invariant in
    omega (arith, inv.few, inv.room, inv.outside.same)

pub link_one-requires : goal.link_one-requires
link_one-requires c =
    linking.linking_asks _ _ _ _ c.loop-left-test.true
    c.loop-left.invariant

pub loop-left-preserved : goal.loop-left-preserved
loop-left-preserved c =
    rw c.link_one.ensures
    (linking.linking_more _ _ _ _ c.loop-left-test.true
    c.loop-left.invariant)

pub shape_of-work : goal.shape_of-work
shape_of-work c = c.loop-left.invariant.outside.same
    ∙ c.no_members.ensures.same

pub returns : goal.returns
returns c =
    let filled = linking.outside_fill _ _ _ c.no_members.ensures in
    let done : c.loop-left.left ≡ 0 = omega arith in record {
      kept = linking.outside_trans _ _ _ _ filled c.loop-left.invariant.outside;
      links = linking.linking_done _ _ _ _ _ c.requires.n_in_bounds c.no_members.ensures done
          c.loop-left.invariant;
    }
