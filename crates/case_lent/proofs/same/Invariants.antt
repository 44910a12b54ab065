-- The places passed had equal numbers, so whether the lists are the same is whether they are from
-- the index on.
use Rattle.std.proofs.Common.{◌≡◌, take, drop}
use Rattle.std.specs.Io.KnownBytes.{Keeps}
use Rattle.case_io.specs.Same.{same_numbers}
use Rattle.case_lent.proofs.same.Given as goal

abbrev pub invariant-loop-i : goal.invariant-loop-i
invariant-loop-i g l =
    let numbers = g.T.Cell.numbers in
    (same_numbers (numbers l.expected) (numbers l.got)
    ≡ same_numbers (drop l.i (numbers l.expected)) (drop l.i (numbers l.got)))
    × (take l.i (numbers l.expected) ≡ take l.i (numbers l.got))
    × Keeps (g.W.Write.contents l.fn.out) (g.W.Write.contents l.out)
