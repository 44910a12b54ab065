-- `instr::emit_any_bx` meets its contract: by whether it is native. Assumes nothing.
use Rattle.std.proofs.Common.{ℕ, false, sym, ap, ◌∙◌}
use Rattle.lower_forms.specs.Forms.{bx, Form}
use Rattle.lower_forms.specs.Operands.{reg_expr}
use Rattle.lower_forms.specs.Block.{flush_ticks, native_exit, emit_straight}
use Rattle.emit_instr.proofs.Chosen.{chosen, refused}
use Rattle.emit_instr.proofs.Steps.{same_form}
use Rattle.emit_instr.proofs.instr.emit_any_bx.Goals as goal

pub returns-then-is_native_exit : goal.returns-then-is_native_exit
returns-then-is_native_exit c =
    let a = c.args in
    λ ks b j fs h g.
    same_form _ _
    (ap (λ (n : ℕ). (Form.native (bx (flush_ticks n) (reg_expr a.x.instr a.rm)), 0))
    (c.with_cost.ensures g)
    ∙ chosen (native_exit a.s.region a.x.instr) _
    (emit_straight a.s.thumb false a.cycles a.x)
    (sym c.is_native_exit.ensures ∙ c.if-is_native_exit.true))
    (c.leave_by_bx.ensures ks b j fs)

pub returns-else-is_native_exit : goal.returns-else-is_native_exit
returns-else-is_native_exit c =
    let a = c.args in
    λ ks b j fs h g.
    same_form _ _
    (refused (native_exit a.s.region a.x.instr) _
    (emit_straight a.s.thumb false a.cycles a.x)
    (sym c.is_native_exit.ensures ∙ c.if-is_native_exit.false))
    (c.emit_straight.ensures ks b j fs h g)
