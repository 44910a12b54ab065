-- `block_mem::put_block_mem` meets its contract: what its calls write, one after another.
-- Assumes nothing.
use Rattle.emit_mem.specs.BlockMem.{base_lines, moves}
use Rattle.std.proofs.Common.{ℕ, [], sym}
use Rattle.c_tree.specs.Stmt.{end}
use Rattle.emit_mem.proofs.Lines.{lines_both}
use Rattle.lower_forms.specs.Forms.{Lines}
use Rattle.base_text.proofs.Laws.{seq, wrote_as}
use Rattle.emit_mem.proofs.block_mem.put_block_mem.Goals as goal

pub returns : goal.returns
returns c =
    let a = c.args in
    let total : ℕ = c.bytes_listed-total.result in
    let first : Lines = base_lines a.m total in
    let rest : Lines = moves a.m.load a.i a.m total in
    rw (sym c.bytes_listed-total.ensures.bytes)
    (wrote_as (seq c.put_block_base-p.ensures c.put_transfers.ensures)
    (lines_both 8 first rest end []))
