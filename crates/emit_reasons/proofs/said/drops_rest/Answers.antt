-- `drops_rest` tells the unconditional native exits.
-- Assumes nothing.
use mathlib.Core.Path.{sym, ap, ◌∙◌}
use Rattle.lower_reasons.specs.Said.{drops_rest_by}
use Rattle.lower_reasons.proofs.Leaving.{
  leaves_not,
  leaves_branch,
  leaves_bx,
  leaves_bios,
  leaves_pop,
  leaves_other,
}
use borrow.Enum.Refused.{opened}
use Rattle.emit_reasons.proofs.said.drops_rest.Goals as goal

pub returns-in_default : goal.returns-in_default
returns-in_default c =
    let a = c.args in
    leaves_other a.region a.i.cond a.i.op (opened c.in_default.in_default-own.keys4)

pub returns-else-region-eq0 : goal.returns-else-region-eq0
returns-else-region-eq0 c =
    let k = c.is_al in
    let a = c.args in
    c.pops_pc.ensures
    ∙ leaves_pop a.region a.i.cond c.in-BlockMem.load c.in-BlockMem.rn c.in-BlockMem.rlist c.in-BlockMem.pre
    c.in-BlockMem.up c.in-BlockMem.s_bit c.in-BlockMem.writeback
    (sym k.ensures ∙ c.if-not-is_al.false) c.if-region-eq0.false
    ∙ sym (ap (drops_rest_by a.region a.i.cond) c.in-BlockMem.is)

pub returns-then-region-eq0 : goal.returns-then-region-eq0
returns-then-region-eq0 c =
    let k = c.is_al in
    let a = c.args in
    leaves_bios a.region a.i.cond c.in-BlockMem.load c.in-BlockMem.rn c.in-BlockMem.rlist c.in-BlockMem.pre
    c.in-BlockMem.up c.in-BlockMem.s_bit c.in-BlockMem.writeback
    (sym k.ensures ∙ c.if-not-is_al.false)
    c.if-region-eq0.true
    ∙ sym (ap (drops_rest_by a.region a.i.cond) c.in-BlockMem.is)

pub returns-in-Bx : goal.returns-in-Bx
returns-in-Bx c =
    let k = c.is_al in
    let a = c.args in
    leaves_bx a.region a.i.cond c.in-Bx.rm (sym k.ensures ∙ c.if-not-is_al.false)
    ∙ sym (ap (drops_rest_by a.region a.i.cond) c.in-Bx.is)

pub returns-in-Branch : goal.returns-in-Branch
returns-in-Branch c =
    let k = c.is_al in
    let a = c.args in
    leaves_branch a.region a.i.cond c.in-Branch.link c.in-Branch.target (sym k.ensures ∙ c.if-not-is_al.false)
    ∙ sym (ap (drops_rest_by a.region a.i.cond) c.in-Branch.is)

pub returns-then-not-is_al : goal.returns-then-not-is_al
returns-then-not-is_al c =
    let a = c.args in
    leaves_not a.region a.i.cond a.i.op (sym c.is_al.ensures ∙ c.if-not-is_al.true)
