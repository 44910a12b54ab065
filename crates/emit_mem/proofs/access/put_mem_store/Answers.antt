-- `access::put_mem_store` meets its contract: what its calls write, one after another.
-- Assumes nothing.
use Rattle.std.proofs.Common.{not, ◌&&◌, eqb, List, [], ◌∷◌}
use Rattle.c_tree.specs.Expr.{x-ob, reg, get}
use Rattle.c_tree.specs.Preamble.{v32}
use Rattle.c_tree.specs.Stmt.{Plain}
use Rattle.emit_mem.proofs.Lines.{each_on_line_both}
use Rattle.lower_forms.specs.InlineBody.{list_if, set_reg, stored}
use Rattle.base_text.proofs.Laws.{seq, wrote_as}
use Rattle.emit_mem.proofs.access.put_mem_store.Goals as goal

pub returns : goal.returns
returns c =
    let a = c.args in
    let m = a.m in
    let store : List Plain = stored m.width (get (reg m.rd)) ∷ [] in
    let back : List Plain = list_if (a.wb && not (eqb m.rn 15)) (set_reg m.rn (v32 x-ob)) in
    wrote_as (seq c.put_store_line-p.ensures c.put_store_ob.ensures)
    (each_on_line_both 8 store back)
