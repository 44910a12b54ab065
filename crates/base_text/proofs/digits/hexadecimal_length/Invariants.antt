-- `text::digits::hexadecimal_length` meets its contract: the digits counted and those of what is
-- left are the digits of n.
use mathlib.Core.Path.{◌≡◌}
use Prim.Native.Nat.{◌+◌, ◌-◌, ◌^◌, ◌<◌}
use lib.ListN.{length}
use Rattle.base_text.specs.Digits.{numeral}
use Rattle.base_text.proofs.digits.hexadecimal_length.Given as goal

abbrev pub invariant-loop-rest : goal.invariant-loop-rest
invariant-loop-rest l =
    (l.k < 16) × (l.rest < 16 ^ (16 - l.k))
    × (length (numeral 16 16 l.n) ≡ l.k + length (numeral 16 (16 - l.k) l.rest))

abbrev pub decreases-loop-rest : goal.decreases-loop-rest
decreases-loop-rest l = 16 - l.k
