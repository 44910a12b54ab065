-- The numbers before the index were read.
use Rattle.std.proofs.Common.{length, take, ◌≡◌}
use Rattle.case_io.specs.Input.{ConsumesWords}
use Rattle.case_io.proofs.input.numbers.Given as goal

abbrev pub invariant-loop-n : goal.invariant-loop-n
invariant-loop-n g l =
    (length l.out ≡ length l.fn.out)
    × ConsumesWords (g.R.Read.remaining l.fn.reader) (g.R.Read.remaining l.reader)
    (take l.n-index l.out)
