-- `cycles::pending` meets its contract: a sum, or the cost alone. Assumes nothing.
use Rattle.std.proofs.Common.{arith}
use Rattle.emit_instr.proofs.cycles.pending.Goals as goal

pub returns-then-touches_bus : goal.returns-then-touches_bus
returns-then-touches_bus c =
    λ h. rw c.if-touches_bus.true (omega arith)

pub returns-else-touches_bus : goal.returns-else-touches_bus
returns-else-touches_bus c =
    λ h. rw c.if-touches_bus.false (c.with_cost.ensures h)
