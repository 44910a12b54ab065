-- `close_part` gives the next group's number: one more exactly if the part is open.
use Rattle.plan_groups.proofs.order.close_part.Goals as goal

pub returns-then-open : goal.returns-then-open
returns-then-open c = rw c.if-open.true
