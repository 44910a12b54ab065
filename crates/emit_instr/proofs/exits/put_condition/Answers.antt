-- `exits::put_condition` meets its contract: what its calls write, one after another. Assumes
-- nothing.
use Rattle.base_text.proofs.Laws.{seq}
use Rattle.emit_instr.proofs.exits.put_condition.Goals as goal

pub returns : goal.returns
returns c =
    seq c.flush_ticks-p.ensures
    (seq c.open_conditional-q.ensures c.put_cond_expr.ensures)
