-- `file_instrs::instr_record::put` meets its contract: each turn pastes one value more.
-- Assumes nothing.
use mathlib.Core.Path.{◌≡◌}
use Prim.Native.Nat.{◌+◌, ◌≤◌}
use lib.ListN.{length}
use lib.Seq.{paste}
use Rattle.file_instrs.proofs.instr_record.put.Given as goal

abbrev pub invariant-loop-k : goal.invariant-loop-k
invariant-loop-k l =
    (l.k ≤ length l.part) × (l.from + length l.part ≤ length l.initial.all) × (length l.all ≡ length l.initial.all)
    × (l.all ≡ paste l.initial.all l.from l.part l.k)
