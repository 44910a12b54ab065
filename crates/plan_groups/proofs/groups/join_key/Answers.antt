-- `join_key` makes the edge from a block to a key, or none where no block of page 8 has the key.
-- The first quarter of the work numbers, lent to be searched, is the key order; the second, lent to
-- be changed, is the parents.
use Rattle.plan_groups.proofs.Joining as joining
use Rattle.plan_groups.proofs.Lending as lending
use lib.Seq.{length-take-le}
use mathlib.Core.Path.{sym}
use native.Mathlib.Omega.{arith}
use Rattle.plan_groups.proofs.groups.join_key.Goals as goal

pub slice_bounds-find_target-end-2 : goal.slice_bounds-find_target-end-2
slice_bounds-find_target-end-2 c = sym (length-take-le _ _ (omega arith))

pub find_target-requires : goal.find_target-requires
find_target-requires c =
    record { accepted = c.requires.accepted; i_bound = omega (arith, c.requires.has_room_at.2, c.requires.has_room_at.3) }

pub returns-in_default : goal.returns-in_default
returns-in_default c =
    joining.join_nothing _ _ _ _ _ _ c.find_target.ensures.found
    c.in_default.is

pub hang_under-requires : goal.hang_under-requires
hang_under-requires c =
    let w = c.args.work.now in
    let n = c.args.n in
    let pre = c.requires.has_room_at in
    rw (lending.lent_is n w, lending.quarter_length n w pre.0) record {
      forest = c.requires.forest;
      i_in_bounds = pre.2;
      j_in_bounds = joining.target_inside _ _ _ _
          c.find_target.ensures.inside
          c.in-Some.is pre.3;
    }

pub returns : goal.returns
returns c =
    joining.join_at _ _ _ _ _ _
    c.find_target.ensures.found _ _
    c.requires.has_room_at.0
    c.in-Some.is
    (rw lending.lent_is at c.hang_under.ensures)
