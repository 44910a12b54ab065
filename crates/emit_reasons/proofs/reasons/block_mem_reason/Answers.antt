-- `block_mem_reason` tells the pop of PC from other lists.
-- Assumes nothing.
use mathlib.Core.Bool.{Bool, not, cond}
use mathlib.Core.Option.{some, none}
use mathlib.Core.Path.{sym, ap, ◌∙◌}
use lib.Dec.{eqb}
use Rattle.armv4t.specs.Cond.{is_al}
use Rattle.lower_reasons.specs.declared.types.Reason.TheVariants.{ConditionalExit, BiosExit}
use Rattle.lower_reasons.specs.Reasons.{ListFields, loads_pc, pops_pc, reason_by}
use Rattle.lower_reasons.proofs.Pops.{pop_reason, other_reason}
use Rattle.emit_reasons.proofs.reasons.block_mem_reason.Goals as goal

pub returns-then-pops_pc : goal.returns-then-pops_pc
unfolding reason_by
returns-then-pops_pc c = λ k e.
    let a = c.args in
    let t : ListFields = record {
      load = a.load;
      rn = a.rn;
      rlist = a.rlist;
      pre = a.pre;
      up = a.up;
      s_bit = a.s_bit;
      writeback = a.writeback;
    } in
    c.exit_reason.ensures
    ∙ ap (λ (al : Bool). cond (not al) (some ConditionalExit) (cond (eqb a.region 0)
    (some BiosExit) none)) e
    ∙ sym (pop_reason t (is_al k) (eqb a.region 0) (sym c.pops_pc.ensures
    ∙ c.if-pops_pc.true))

pub returns : goal.returns
unfolding reason_by
returns c = λ k e.
    let a = c.args in
    let t : ListFields = record {
      load = a.load;
      rn = a.rn;
      rlist = a.rlist;
      pre = a.pre;
      up = a.up;
      s_bit = a.s_bit;
      writeback = a.writeback;
    } in
    c.list_reason.ensures
    ∙ sym (other_reason (pops_pc t) t.s_bit (eqb t.rlist 0) (eqb t.rn 15) (loads_pc t)
    (is_al k) (eqb a.region 0) (sym c.pops_pc.ensures ∙ c.if-pops_pc.false))
