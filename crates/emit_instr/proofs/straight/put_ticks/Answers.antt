-- `straight::put_ticks` meets its contract: its call writes the text, or there is none. Assumes
-- nothing.
use Rattle.base_text.proofs.Laws.{none}
use Rattle.std.proofs.Common.{rules}
use Rattle.emit_instr.proofs.straight.put_ticks.Goals as goal

pub returns-then-touches_bus : goal.returns-then-touches_bus
returns-then-touches_bus c =
    rw c.if-touches_bus.true c.flush_ticks.ensures

pub returns-else-touches_bus : goal.returns-else-touches_bus
returns-else-touches_bus c =
    rw c.if-touches_bus.false (none (search rules) (search rules))
