-- `emit_flow::guards::emit_guard` meets its contract: what its calls write, one after another.
-- Assumes nothing.
use Rattle.emit_flow.proofs.Pieces.{guarding}
use Rattle.base_text.proofs.Laws.{seq, wrote_as}
use Rattle.emit_flow.proofs.guards.emit_guard.Goals as goal

pub returns : goal.returns
returns c =
    λ b e. wrote_as
    (seq c.put_then_hex8-p.ensures
    (seq c.put_then_dec-q.ensures
    (seq c.put-s.ensures
    (seq c.put_hex16-t.ensures (seq c.put_then_hex8-u.ensures c.put.ensures)))))
    (guarding b _ _ _ e)
