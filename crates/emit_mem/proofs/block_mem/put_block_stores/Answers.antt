-- `block_mem::put_block_stores` meets its contract: what its calls write, one after another.
-- Assumes nothing.
use Rattle.emit_mem.specs.BlockMem.{base_back}
use Rattle.std.proofs.Common.{[], sym}
use Rattle.c_tree.specs.Stmt.{end}
use Rattle.emit_mem.proofs.Lines.{lines_both}
use Rattle.lower_forms.specs.Forms.{Lines}
use Rattle.lower_forms.specs.InlineBody.{listed, moved_base, stored_reg}
use Rattle.lower_forms.specs.InlineBody.{stores}
use Rattle.base_text.proofs.Laws.{seq, wrote_as}
use Rattle.emit_mem.proofs.block_mem.put_block_stores.Goals as goal

pub returns : goal.returns
returns c =
    let a = c.args in
    let m = a.m in
    let first : Lines =
    stores
    (stored_reg a.i m.rn m.writeback c.lowest_listed.result
    (moved_base m.up a.total)) (listed m.rlist 16) in
    let back : Lines = base_back m.writeback m a.total in
    rw (sym c.lowest_listed.ensures)
    (wrote_as (seq c.put_stores-p.ensures c.put_store_back.ensures)
    (lines_both 8 first back end []))
