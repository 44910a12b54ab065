-- `emit_instr::exits::emit_bx` meets its contract: what its calls write, one after another. Assumes
-- nothing.
use Rattle.emit_flow.proofs.Pieces.{bx_text}
use Rattle.lower_forms.specs.Operands.{reg_of}
use Rattle.base_text.proofs.Laws.{seq, wrote_as}
use Rattle.emit_instr.proofs.exits.emit_bx.Goals as goal

pub returns : goal.returns
returns c =
    let v = c.args in
    λ ks a o d. wrote_as
    (seq c.flush_ticks-p.ensures
    (seq c.put-q.ensures (seq c.put_reg-s.ensures c.put.ensures)))
    (bx_text ks a o v.cycles (reg_of v.pc v.r) d)
