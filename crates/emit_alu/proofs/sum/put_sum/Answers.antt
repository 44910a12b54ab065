-- `emit_alu::sum::put_sum` meets its contract: what its calls write, one after another. Assumes
-- nothing.
use Rattle.emit_alu.proofs.Texts.{sum_of}
use Rattle.lower_forms.specs.Operands.{reg_of, operand_of}
use Rattle.c_tree.specs.Print.{expr_text}
use Rattle.base_text.specs.Doc.{raw, ◌▸◌}
use mathlib.Core.List.{[]}
use Rattle.base_text.proofs.Laws.{seq, wrote_as, kept}
use Rattle.emit_alu.proofs.sum.put_sum.Goals as goal

pub returns : goal.returns
returns c =
    let a = c.args in
    let d = a.a in
    λ y z p q. wrote_as
    (seq c.put_before-p.ensures
    (seq c.put_reg-q.ensures
    (seq c.put_between-v.ensures
    (seq c.put-w.ensures (seq c.put_op2_value-x.ensures c.put_sum_rest.ensures)))))
    (sum_of d.op d.s d.rd (reg_of d.pc d.rn) y z
    (raw a.t.now ▸ expr_text (operand_of d.pc d.op2).0) (raw a.carry.now) p q [])

pub shape_of-out : goal.shape_of-out
shape_of-out c =
    kept (seq c.put_before-p.ensures
    (seq c.put_reg-q.ensures
    (seq c.put_between-v.ensures
    (seq c.put-w.ensures (seq c.put_op2_value-x.ensures c.put_sum_rest.ensures)))))
