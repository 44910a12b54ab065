-- `find_instr` goes from block to block. The loop's invariant: the instruction stands in none
-- before.
-- Assumes nothing.
use Prim.Native.Nat.{◌-◌, ◌≤◌}
use mathlib.Core.Path.{◌≡◌}
use Rattle.file_records.specs.BlockRecord.{count_sum}
use Rattle.call_reasons.proofs.find.find_instr.Given as goal

abbrev pub invariant-loop-i : goal.invariant-loop-i
invariant-loop-i l = (l.i ≤ l.n) × (l.first ≡ count_sum l.file l.i) × (l.first ≤ l.k)
