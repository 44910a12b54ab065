-- `emit_flow::exits::branch_taken` meets its contract: what its calls write, one after another.
-- Assumes nothing.
use Rattle.emit_flow.proofs.Pieces.{taken}
use Rattle.lower_forms.specs.Block.{branch_regs}
use Rattle.base_text.proofs.Laws.{seq, wrote_as}
use Rattle.emit_flow.proofs.exits.branch_taken.Goals as goal

pub returns : goal.returns
returns c =
    let v = c.args in
    λ ks o h. wrote_as
    (seq c.put_taken-p.ensures (seq (c.transfer-q.ensures ks o h) c.put.ensures))
    (taken ks v.e.src o (branch_regs v.link v.ret v.target) v.e.key)
