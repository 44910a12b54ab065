-- `straight::put_straight_if` meets its contract: what its calls write, one after another. Assumes
-- nothing.
use Rattle.base_text.proofs.Laws.{seq}
use Rattle.emit_instr.proofs.straight.put_straight_if.Goals as goal

pub returns : goal.returns
returns c =
    λ body e.
    seq c.open_conditional-p.ensures
    (seq c.put_cond_expr-q.ensures
    (seq c.open_straight_if-s.ensures
    (seq (c.put_body-t.ensures body e) c.close_straight_if.ensures)))
