-- `reason_of` gives the first reason that holds, by the kind: an arm of one kind is given its
-- fields, and `_` stands for the kinds without a native form.
-- Assumes nothing.
use mathlib.Core.Path.{sym, ap, ◌∙◌}
use Rattle.lower_reasons.specs.Reasons.{reason_by}
use Rattle.lower_reasons.proofs.Formless.{formless_reason}
use Rattle.emit_reasons.proofs.reasons.reason_of.Goals as goal

pub returns-in-MulLong : goal.returns-in-MulLong
unfolding reason_by
returns-in-MulLong c = let a = c.args in sym (ap (reason_by a.region a.i.cond)
    c.in-MulLong.is)

pub returns-in-Bx : goal.returns-in-Bx
unfolding reason_by
returns-in-Bx c =
    let a = c.args in
    c.exit_reason.ensures ∙ rw c.is_al-al.ensures (sym (ap (reason_by
    a.region a.i.cond) c.in-Bx.is))

pub returns-in-Branch : goal.returns-in-Branch
unfolding reason_by
returns-in-Branch c = let a = c.args in sym (ap (reason_by a.region a.i.cond)
    c.in-Branch.is)

pub returns-in-ThumbBlHigh : goal.returns-in-ThumbBlHigh
unfolding reason_by
returns-in-ThumbBlHigh c = let a = c.args in sym (ap (reason_by a.region a.i.cond)
    c.in-ThumbBlHigh.is)

pub returns-in-ThumbBlLow : goal.returns-in-ThumbBlLow
unfolding reason_by
returns-in-ThumbBlLow c = let a = c.args in sym (ap (reason_by a.region a.i.cond)
    c.in-ThumbBlLow.is)

pub returns-in-BlockMem : goal.returns-in-BlockMem
returns-in-BlockMem c =
    let a = c.args in
    c.block_mem_reason.ensures a.i.cond c.is_al-al.ensures
    ∙ sym (ap (reason_by a.region a.i.cond) c.in-BlockMem.is)

pub returns-in_default : goal.returns-in_default
returns-in_default c = let a = c.args in sym (formless_reason a.region a.i.cond
    a.i.op c.in_default.in_default-own.keys10)
