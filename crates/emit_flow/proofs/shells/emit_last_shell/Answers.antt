-- `emit_flow::shells::emit_last_shell` meets its contract: what its calls write, one after another.
-- Assumes nothing.
use Rattle.emit_flow.proofs.Pieces.{ticked}
use Rattle.c_tree.specs.Stmt.{common, ret_interp, end, ◌⨾◌}
use Rattle.lower_units.specs.Block.{nl, sp}
use Rattle.lower_forms.specs.Block.{pc_line}
use Rattle.base_text.proofs.Laws.{seq, wrote_as}
use Rattle.emit_flow.proofs.shells.emit_last_shell.Goals as goal

pub returns : goal.returns
returns c =
    let v = c.args in
    λ k i. wrote_as (seq c.flush_ticks-p.ensures (seq c.set_pc-q.ensures c.put.ensures))
    (ticked common v.cycles (pc_line v.addr) (sp 4 ⨾ ret_interp k i ⨾ nl ⨾ end))
