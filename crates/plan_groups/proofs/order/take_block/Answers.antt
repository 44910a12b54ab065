-- `take_block` gives the part that takes a block: a new one exactly if the limit is passed and the
-- part is open.
use borrow.Author.Tests.{lt-ltb, le-ltb}
use Rattle.plan_groups.proofs.order.take_block.Goals as goal

pub returns-then-open : goal.returns-then-open
returns-then-open c = rw (lt-ltb _ _ c.if-limit-total.true, c.if-open.true)

pub returns-else-open : goal.returns-else-open
returns-else-open c = rw (lt-ltb _ _ c.if-limit-total.true, c.if-open.false)

pub returns-else-limit-total : goal.returns-else-limit-total
returns-else-limit-total c = rw (le-ltb _ _ c.if-limit-total.false)
