-- `file_instrs::instr_record::within` meets its contract: each turn takes one byte more. Assumes
-- nothing.
use mathlib.Core.Path.{◌≡◌}
use Prim.Native.Nat.{◌+◌, ◌≤◌}
use lib.ListN.{length, take, drop}
use Rattle.file_instrs.specs.InstrRecord.{within as limits-within}
use Rattle.file_instrs.proofs.instr_record.within.Given as goal

abbrev pub invariant-loop-k : goal.invariant-loop-k
invariant-loop-k l =
    (l.k ≤ 16) × (l.at + 16 ≤ length l.file) × (l.from + 16 ≤ length l.limits)
    × (l.ok ≡ limits-within l.file l.at (take l.k (take 16 (drop l.from l.limits))))
