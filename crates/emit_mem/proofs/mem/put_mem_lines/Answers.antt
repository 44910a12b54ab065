-- `mem::put_mem_lines` meets its contract: what its calls write, one after another.
-- Assumes nothing.
use Rattle.std.proofs.Common.{[], sym}
use Rattle.c_tree.specs.Stmt.{end}
use Rattle.emit_mem.proofs.Lines.{lines_both}
use Rattle.emit_mem.specs.Mem.{transfer_lines, access_of}
use Rattle.lower_forms.specs.Forms.{Lines}
use Rattle.lower_forms.specs.InlineBody.{each_on_line}
use Rattle.base_text.proofs.Laws.{seq, wrote_as}
use Rattle.emit_mem.proofs.mem.put_mem_lines.Goals as goal

pub returns : goal.returns
returns c =
    let a = c.args in
    let first : Lines = transfer_lines a.thumb a.i a.m [] in
    let rest : Lines = each_on_line (access_of a.m.load a.m c.writes_back-wb.result) in
    rw (sym c.writes_back-wb.ensures)
    (wrote_as (seq c.put_address-p.ensures c.put_access.ensures)
    (lines_both 8 first rest end []))
