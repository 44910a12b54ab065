-- `instr::emit_instr` meets its contract: an arm of one operation is given its fields, and `_`
-- answers for all that go on to the next instruction and do not touch memory. Assumes nothing.
use Rattle.std.proofs.Common.{ℕ, sym, ap, ◌∙◌, subst}
use Rattle.lower_forms.specs.Forms.{Form}
use Rattle.lower_forms.specs.Block.{emit_branch, emit_op, emit_instr}
use Rattle.base_lists.specs.Lists.{among}
use Rattle.emit_instr.specs.Steps.{BranchInside}
use Rattle.emit_instr.proofs.Steps.{same_form}
use Rattle.emit_instr.proofs.Operations.{straight_on}
use borrow.Enum.Refused.{opened}
use Rattle.emit_instr.proofs.instr.emit_instr.Goals as goal

pub returns-in-Bx : goal.returns-in-Bx
unfolding emit_instr
returns-in-Bx c =
    let a = c.args in
    λ ks b j fs h e g reach.
    same_form _ _
    (ap (emit_op a.s.thumb a.s.region a.cycles a.x) (sym c.in-Bx.is))
    (c.emit_any_bx.ensures ks b j fs h g)

pub returns-in-Branch : goal.returns-in-Branch
unfolding emit_instr
returns-in-Branch c =
    let a = c.args in
    λ ks b j fs h e g reach.
    same_form _ _
    (ap (λ (n : ℕ). (Form.native (emit_branch a.s.thumb n a.x.instr c.in-Branch.link c.in-Branch.target), 0))
    (c.with_cost.ensures g)
    ∙ ap (emit_op a.s.thumb a.s.region a.cycles a.x) (sym c.in-Branch.is))
    (c.emit_branch.ensures a.s.thumb ks b j fs c.key_of.ensures
    (ap (λ (n : ℕ). among n ks) c.key_of.ensures
    ∙ subst (BranchInside ks a.s.thumb a.inside) c.in-Branch.is reach) e)

pub returns-in-ThumbBlHigh : goal.returns-in-ThumbBlHigh
unfolding emit_instr
returns-in-ThumbBlHigh c =
    let a = c.args in
    λ ks b j fs h e g reach.
    same_form _ _
    (ap (emit_op a.s.thumb a.s.region a.cycles a.x) (sym c.in-ThumbBlHigh.is))
    (c.emit_half.ensures ks b j fs h)

pub returns-in-Mem : goal.returns-in-Mem
unfolding emit_instr
returns-in-Mem c =
    let a = c.args in
    λ ks b j fs h e g reach.
    same_form _ _
    (ap (emit_op a.s.thumb a.s.region a.cycles a.x)
    (sym c.in-Mem.is))
    (c.emit_straight.ensures ks b j fs h g)

pub returns-in-BlockMem : goal.returns-in-BlockMem
unfolding emit_instr
returns-in-BlockMem c =
    let a = c.args in
    λ ks b j fs h e g reach.
    same_form _ _
    (ap (emit_op a.s.thumb a.s.region a.cycles a.x) (sym c.in-BlockMem.is))
    (c.emit_block_mem.ensures ks b j fs h g)

pub returns-in_default : goal.returns-in_default
unfolding emit_instr
returns-in_default c =
    let a = c.args in
    λ ks b j fs h e g reach.
    same_form _ _
    (sym (straight_on a.s.thumb a.s.region a.cycles a.x a.x.instr.op
    (opened c.in_default.in_default-own.keys6))) (c.emit_straight-in_default.ensures ks b j fs h g)
