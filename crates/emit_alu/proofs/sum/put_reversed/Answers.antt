-- `emit_alu::sum::put_reversed` meets its contract: what its calls write, one after another.
-- Assumes nothing.
use mathlib.Core.Path.{refl}
use Rattle.emit_alu.proofs.Texts.{sum_of}
use Rattle.lower_forms.specs.Operands.{reg_of, operand_of}
use Rattle.c_tree.specs.Expr.{compl, un}
use Rattle.c_tree.specs.Print.{expr_text}
use Rattle.base_text.specs.Doc.{raw, text, ◌▸◌}
use mathlib.Core.List.{[]}
use Rattle.base_text.proofs.Laws.{seq, wrote_as, kept}
use Rattle.emit_alu.proofs.sum.put_reversed.Goals as goal

pub returns : goal.returns
returns c =
    let a = c.args in
    let d = a.a in
    let e = reg_of d.pc d.rn in
    λ z q. wrote_as
    (seq c.put_before-p.ensures
    (seq c.put_op2_value-q.ensures
    (seq c.put_between-v.ensures
    (seq c.put-w.ensures (seq c.put_reg-x.ensures c.put_sum_rest.ensures)))))
    (sum_of d.op d.s d.rd (operand_of d.pc d.op2).0 (un compl e) z
    (text "~" ▸ expr_text e) (raw a.carry.now) (λ k. refl) q [])

pub shape_of-out : goal.shape_of-out
shape_of-out c =
    kept (seq c.put_before-p.ensures
    (seq c.put_op2_value-q.ensures
    (seq c.put_between-v.ensures
    (seq c.put-w.ensures (seq c.put_reg-x.ensures c.put_sum_rest.ensures)))))
