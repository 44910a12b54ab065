-- `access::put_mem_load` meets its contract: what its calls write, one after another.
-- Assumes nothing.
use Rattle.std.proofs.Common.{not, ◌&&◌, eqb, List, [], ◌∷◌}
use Rattle.c_tree.specs.Expr.{x-ob}
use Rattle.c_tree.specs.Preamble.{v32}
use Rattle.c_tree.specs.Stmt.{Plain}
use Rattle.emit_mem.proofs.Lines.{each_on_line_both}
use Rattle.lower_forms.specs.InlineBody.{list_if, set_reg, loaded}
use Rattle.base_text.proofs.Laws.{seq, wrote_as}
use Rattle.emit_mem.proofs.access.put_mem_load.Goals as goal

pub returns : goal.returns
returns c =
    let a = c.args in
    let m = a.m in
    let back : List Plain =
    list_if (a.wb && not (eqb m.rn m.rd) && not (eqb m.rn 15))
    (set_reg m.rn (v32 x-ob)) in
    let load : List Plain = set_reg m.rd (loaded m.width m.signed) ∷ [] in
    wrote_as (seq c.put_load_ob-p.ensures c.put_load_line.ensures)
    (each_on_line_both 8 back load)
