-- `put_row` stores a block and its group. The first store leaves the length as it is, so the second
-- is inside too.
use lib.ListN.{length-set}
use native.Mathlib.Omega.{arith}
use Rattle.plan_groups.proofs.order.put_row.Goals as goal

pub bounds-work-n : goal.bounds-work-n
bounds-work-n c = simp length-set (omega arith)
