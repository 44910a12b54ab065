-- `emit_flow::exits::branch_always` meets its contract: what its calls write, one after another.
-- Assumes nothing.
use Rattle.emit_flow.proofs.Pieces.{jumped}
use Rattle.base_text.proofs.Laws.{seq, wrote_as}
use Rattle.emit_flow.proofs.exits.branch_always.Goals as goal

pub returns : goal.returns
returns c =
    let v = c.args in
    λ ks o d h. wrote_as
    (seq c.flush_ticks-p.ensures
    (seq c.set_link-q.ensures (seq c.set_pc-s.ensures (c.transfer.ensures ks o h))))
    (jumped ks v.e.src o v.cycles v.link v.ret v.target v.e.key d)
