-- `block_mem::put_block_loads` meets its contract: what its calls write, one after another.
-- Assumes nothing.
use Rattle.emit_mem.specs.BlockMem.{base_back}
use Rattle.std.proofs.Common.{not, ◌&&◌, [], sym}
use Rattle.c_tree.specs.Stmt.{end}
use Rattle.emit_mem.proofs.Lines.{lines_both}
use Rattle.lower_forms.specs.Forms.{Lines}
use Rattle.lower_forms.specs.InlineBody.{listed, loads}
use Rattle.base_text.proofs.Laws.{seq, wrote_as}
use Rattle.emit_mem.proofs.block_mem.put_block_loads.Goals as goal

pub returns : goal.returns
returns c =
    let a = c.args in
    let back : Lines =
    base_back (a.m.writeback && not c.is_listed-in_list.result) a.m a.total in
    let rest : Lines = loads (listed a.m.rlist 16) in
    rw (sym c.is_listed-in_list.ensures)
    (wrote_as (seq c.put_load_back-p.ensures c.put_loads.ensures)
    (lines_both 8 back rest end []))
