-- `first_place` halves what is between two places.
-- Assumes nothing.
use Prim.Native.Nat.{◌-◌}
use Rattle.file_keys.specs.Order.{block_keys}
use Rattle.file_keys.specs.Answers.{Between}
use Rattle.file_keys.proofs.find.first_place.Given as goal

abbrev pub invariant-loop-low : goal.invariant-loop-low
invariant-loop-low l = Between (block_keys l.file) l.order l.key l.low l.high

abbrev pub decreases-loop-low : goal.decreases-loop-low
decreases-loop-low l = l.high - l.low
