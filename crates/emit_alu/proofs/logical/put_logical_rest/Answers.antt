-- `emit_alu::logical::put_logical_rest` meets its contract: what its calls write, one after
-- another. Assumes nothing.
use Rattle.emit_alu.proofs.Texts.{statements_append}
use mathlib.Core.Bool.{cond}
use mathlib.Core.List.{[], ◌∷◌}
use Rattle.c_tree.specs.Expr.{x-r}
use Rattle.c_tree.specs.Preamble.{v32}
use Rattle.c_tree.specs.Stmt.{f-nz, run}
use Rattle.lower_forms.specs.InlineBody.{result, logical_c}
use Rattle.base_text.proofs.Laws.{seq, wrote_as}
use Rattle.lower_forms.specs.Operands.{operand_of}
use Rattle.emit_alu.proofs.logical.put_logical_rest.Goals as goal

pub returns : goal.returns
returns c =
    let a = c.args.a in
    wrote_as (seq c.put_flags-p.ensures c.put_result.ensures)
    (statements_append
    (cond a.s (run f-nz (v32 x-r) ∷ logical_c (operand_of a.pc a.op2).1) [])
    (result a.op a.rd ∷ []) [])
