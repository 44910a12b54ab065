use Rattle.std.proofs.Common.{rules, sym, subst}
use Rattle.std.proofs.lemmas.List.{take_more_set}
use Rattle.case_io.specs.Input.{ConsumesWords}
use Rattle.case_io.proofs.Words.{consumes_next}
use Rattle.case_io.proofs.input.numbers.Goals as goal

pub loop-n-preserved : goal.loop-n-preserved
loop-n-preserved g c = (
  search rules,
  subst (ConsumesWords _ _)
      (sym (take_more_set c.loop-n.out c.loop-n.n-index c.in_ok-n.field-0 (search rules)))
      (consumes_next _ _ _ _ _ c.loop-n.invariant.1 c.in_ok-n.ensures),
)
