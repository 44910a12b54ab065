-- `lowest_listed` finds the lowest register listed: none that was passed is. Assumes nothing.
use Rattle.std.proofs.Common.{◌≡◌, []}
use Rattle.lower_forms.specs.InlineBody.{listed}
use Rattle.emit_mem.proofs.registers.lowest_listed.Given as goal

abbrev pub invariant-loop-r : goal.invariant-loop-r
invariant-loop-r l = listed l.rlist l.r ≡ []
