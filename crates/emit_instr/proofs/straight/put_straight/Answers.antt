-- `straight::put_straight` meets its contract: what its calls write, one after another. Assumes
-- nothing.
use Rattle.base_text.proofs.Laws.{seq}
use Rattle.emit_instr.proofs.straight.put_straight.Goals as goal

pub returns : goal.returns
returns c =
    λ body e. seq c.open_straight-p.ensures
    (seq (c.put_body-q.ensures body e) c.close_straight.ensures)
