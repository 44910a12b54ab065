-- `put_loads` writes the loads of the registers listed. The loop's invariant: those below r are
-- written. Assumes nothing.
use Rattle.std.proofs.Common.{◌-◌, ◌≤◌, cond}
use Rattle.c_tree.specs.Print.{code_text}
use Rattle.c_tree.specs.Stmt.{common, end}
use Rattle.lower_forms.specs.InlineBody.{loads, listed}
use Rattle.lower_units.specs.Block.{lines}
use Rattle.base_text.specs.Wrote.{Wrote}
use Rattle.emit_mem.proofs.transfers.put_loads.Given as goal

abbrev pub invariant-loop-r : goal.invariant-loop-r
invariant-loop-r l =
    Wrote l.initial.out l.at (code_text (lines common (cond l.pop 6 8) (loads (listed l.rlist l.r)) end)) l.out l.p
