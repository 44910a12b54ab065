-- `emit_flow::exits::emit_closing` meets its contract: what its calls write, one after another.
-- Assumes nothing.
use Rattle.emit_flow.proofs.Pieces.{ticked}
use Rattle.c_tree.specs.Stmt.{common, end}
use Rattle.lower_forms.specs.Block.{pc_line}
use Rattle.lower_units.specs.Block.{transfer}
use Rattle.base_text.proofs.Laws.{seq, wrote_as}
use Rattle.emit_flow.proofs.exits.emit_closing.Goals as goal

pub returns : goal.returns
returns c =
    let v = c.args in
    λ ks h. wrote_as
    (seq c.flush_ticks-p.ensures
    (seq c.set_pc-q.ensures (c.transfer.ensures ks common h)))
    (ticked common v.cycles (pc_line v.next)
    (transfer ks v.e.src common 4 v.e.key end))
