-- `exits::emit_branch` meets its contract: its calls write the text of a branch, by its condition.
-- Assumes nothing.
use Rattle.std.proofs.Common.{◌+◌, ◌++◌, sym, refl, ap, ◌∙◌}
use Rattle.c_tree.specs.Stmt.{Owner}
use Rattle.base_text.proofs.Laws.{seq}
use Rattle.lower_forms.specs.Forms.{Form}
use Rattle.lower_forms.specs.Operands.{cond_expr}
use Rattle.lower_forms.specs.InlineBody.{each_on_line}
use Rattle.lower_forms.specs.Block.{flush_ticks, branch_regs}
use Rattle.armv4t.specs.Cond.{is_al}
use Rattle.lower_units.specs.Block.{body_key, code_from}
use Rattle.emit_instr.proofs.Texts.{jump_step, branch_step, branch_form}
use Rattle.emit_instr.proofs.Steps.{same_form}
use Rattle.emit_instr.proofs.exits.emit_branch.Goals as goal

pub returns-then-is_al : goal.returns-then-is_al
returns-then-is_al c =
    let a = c.args in
    let regs = branch_regs a.link c.wrapping_add_u32-ret.result a.target in
    λ thumb ks b j fs k h e.
    same_form _ _
    (ap (λ n. (Form.native n, 0))
    (branch_form thumb a.cycles a.i a.link a.target _ _
    c.wrapping_add_u32-ret.ensures.value k))
    (record {
      onward =
          jump_step ks b j (is_al a.i.cond) (flush_ticks a.cycles ++ each_on_line regs)
          (flush_ticks a.cycles) (cond_expr a.i.cond) regs
          a.e.key a.e.src fs
          (sym c.is_al.ensures ∙ c.if-is_al.true) e
          (c.branch_always-p.ensures ks (Owner.native_of (body_key b)) (code_from ks b (j + 1) fs)
          h);
      cycles = refl;
    })

pub returns : goal.returns
returns c =
    let a = c.args in
    let regs = branch_regs a.link c.wrapping_add_u32-ret.result a.target in
    λ thumb ks b j fs k h e.
    same_form _ _
    (ap (λ n. (Form.native n, 0))
    (branch_form thumb a.cycles a.i a.link a.target _ _
    c.wrapping_add_u32-ret.ensures.value k))
    (record {
      onward =
          branch_step ks b j (is_al a.i.cond) (flush_ticks a.cycles ++ each_on_line regs)
          (flush_ticks a.cycles) (cond_expr a.i.cond) regs
          a.e.key a.e.src fs
          (sym c.is_al.ensures ∙ c.if-is_al.false) e
          (seq c.put_condition-q.ensures
          (c.branch_taken-s.ensures ks (Owner.native_of (body_key b)) h));
      cycles = refl;
    })
