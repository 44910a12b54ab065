-- `plan_exits::exits::falls_unless` meets its contract: each arm is told the test.
-- Assumes nothing.
use Rattle.plan_exits.proofs.exits.falls_unless.Goals as goal

pub returns-else-leaves : goal.returns-else-leaves
returns-else-leaves c = rw c.if-leaves.false
