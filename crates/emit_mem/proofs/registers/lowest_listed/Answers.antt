use Rattle.std.proofs.Common.{sym, refl, ◌∙◌, arith}
use Rattle.emit_mem.proofs.Listed.{listed_not, lowest_is, lowest_none}
use Rattle.lower_forms.specs.InlineBody.{listed}
use Rattle.emit_mem.proofs.registers.lowest_listed.Goals as goal

pub loop-r-init : goal.loop-r-init
unfolding listed
loop-r-init c = refl

pub returns-then-is_listed : goal.returns-then-is_listed
returns-then-is_listed c =
    lowest_is _ _ c.loop-r-test.true
    (sym c.is_listed.ensures ∙ c.if-is_listed.true) c.loop-r.invariant

pub loop-r-preserved : goal.loop-r-preserved
loop-r-preserved c =
    listed_not _ _ (sym c.is_listed.ensures ∙ c.if-is_listed.false) c.loop-r.invariant

pub returns : goal.returns
returns c = lowest_none _ _ (omega arith) c.loop-r.invariant
