-- `plan_exits::exits::block_exits` meets its contract. The loop's invariant: `first` is the sum of
-- the counts passed; the measure is the number of blocks left. Assumes nothing.
use Rattle.std.proofs.Common.{◌≡◌, ◌-◌, ◌≤◌}
use Rattle.file_records.specs.BlockRecord.{count_sum}
use Rattle.file_blocks.specs.Parse.{Accepted}
use Rattle.plan_exits.proofs.exits.block_exits.Given as goal

abbrev pub invariant-loop-k : goal.invariant-loop-k
invariant-loop-k l = (l.k ≤ l.i) × (Accepted l.file → l.first ≡ count_sum l.file l.k)
