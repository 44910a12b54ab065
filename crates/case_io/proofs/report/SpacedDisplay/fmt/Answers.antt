use Rattle.std.proofs.Common.{rules, sym, ap, ◌∙◌}
use Rattle.std.proofs.Output.{has_written_of_eq, has_written_append}
use Rattle.std.proofs.lemmas.List.{take_more}
use Rattle.case_io.specs.Lines.{spaced}
use Rattle.case_io.proofs.Printed.{spaced_more}
use Rattle.case_io.proofs.report.SpacedDisplay.fmt.Goals as goal

pub loop-n-preserved : goal.loop-n-preserved
loop-n-preserved g c p =
    has_written_of_eq _ _ _ _ _
    (sym (ap spaced (take_more _ _ 0 (search rules)) ∙ spaced_more _ _))
    (has_written_append _ _ _ _ _ _ (c.loop-n.invariant p) (search rules))
