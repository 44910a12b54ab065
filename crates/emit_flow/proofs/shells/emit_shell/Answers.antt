-- `emit_flow::shells::emit_shell` meets its contract: what its calls write, one after another.
-- Assumes nothing.
use Rattle.emit_flow.proofs.Pieces.{ticked}
use Rattle.c_tree.specs.Stmt.{common, end}
use Rattle.lower_units.specs.Block.{shell_code}
use Rattle.lower_forms.specs.Block.{pc_line}
use Rattle.base_text.proofs.Laws.{seq, wrote_as}
use Rattle.emit_flow.proofs.shells.emit_shell.Goals as goal

pub returns : goal.returns
returns c =
    let v = c.args in
    λ b i. wrote_as
    (seq c.flush_ticks-p.ensures
    (seq c.set_pc-q.ensures (seq c.put_then_hex8-s.ensures c.put.ensures)))
    (ticked common v.cycles (pc_line v.addr) (shell_code b i v.expect end))
