-- `decimal_length` meets its contract: at each turn n reaches the power before k.
use Rattle.std.proofs.Common.{◌-◌, ◌^◌, ◌≤◌}
use Rattle.base_text.proofs.digits.decimal_length.Given as goal

abbrev pub invariant-loop-k : goal.invariant-loop-k
invariant-loop-k l = 10 ^ (l.k - 1) ≤ l.n
