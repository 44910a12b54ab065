-- `instr::emit_block_mem` meets its contract: by whether it is a pop of PC. Assumes nothing.
use Rattle.std.proofs.Common.{ℕ, true, sym, ap, ◌∙◌}
use Rattle.lower_forms.specs.Forms.{Form}
use Rattle.lower_forms.specs.InlineBody.{listed}
use Rattle.lower_forms.specs.Block.{is_pop, emit_pop, emit_straight}
use Rattle.emit_instr.proofs.Chosen.{chosen, refused}
use Rattle.emit_instr.proofs.Steps.{same_form}
use Rattle.emit_instr.proofs.instr.emit_block_mem.Goals as goal

pub returns-then-is_pop : goal.returns-then-is_pop
returns-then-is_pop c =
    let a = c.args in
    let m = a.m in
    λ ks b j fs h g.
    same_form _ _
    (ap (λ (n : ℕ). (Form.native (emit_pop a.s.thumb n m.rn (listed m.rlist 15)), 0))
    (c.with_cost.ensures g)
    ∙ chosen
    (is_pop a.s.region a.x.instr m.load m.rn m.rlist m.pre m.up m.s_bit
    m.writeback) _ (emit_straight a.s.thumb true a.cycles a.x)
    (sym (c.is_pop.ensures a.x.instr c.is_al-al.ensures)
    ∙ c.if-is_pop.true))
    (c.leave_by_pop.ensures ks b j fs)

pub returns-else-is_pop : goal.returns-else-is_pop
returns-else-is_pop c =
    let a = c.args in
    let m = a.m in
    λ ks b j fs h g.
    same_form _ _
    (refused
    (is_pop a.s.region a.x.instr m.load m.rn m.rlist m.pre m.up m.s_bit
    m.writeback) _ (emit_straight a.s.thumb true a.cycles a.x)
    (sym (c.is_pop.ensures a.x.instr c.is_al-al.ensures)
    ∙ c.if-is_pop.false))
    (c.emit_straight.ensures ks b j fs h g)
