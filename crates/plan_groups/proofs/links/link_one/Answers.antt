-- `link_one` puts a block in front of its component. Its root is below n, so every place read or
-- written is inside the four quarters.
use lib.ListN.{length-set}
use native.Mathlib.Omega.{arith}
use Rattle.plan_groups.proofs.links.link_one.Goals as goal

pub bounds-work-size-4 : goal.bounds-work-size-4
bounds-work-size-4 c = simp length-set (omega arith)

pub returns : goal.returns
returns c = rw c.as_index-r.ensures
