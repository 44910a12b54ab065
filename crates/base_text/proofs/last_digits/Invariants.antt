-- `last_digits` meets its contract: at each turn the digits still to come, laid over the part, give
-- what all digits laid over it would have given.
use Rattle.std.proofs.Common.{◌≡◌}
use Rattle.base_text.specs.Digits.{last_digits}
use Rattle.base_text.specs.Wrote.{overlay}
use Rattle.base_text.proofs.last_digits.Given as goal

abbrev pub invariant-loop-at : goal.invariant-loop-at
invariant-loop-at l =
    overlay l.part 0 (last_digits 16 l.at l.rest) ≡ overlay l.initial.part 0 (last_digits 16 l.k l.n)
