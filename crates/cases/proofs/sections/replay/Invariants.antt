-- No vector is counted as a mismatch twice, so the count fits.
use Rattle.std.proofs.Common.{◌≤◌}
use Rattle.cases.proofs.sections.replay.Given as goal

abbrev pub invariant-loop-k : goal.invariant-loop-k
invariant-loop-k g l = l.mismatches ≤ l.k
