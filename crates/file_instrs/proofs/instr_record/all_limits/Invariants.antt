-- `file_instrs::instr_record::all_limits` meets its contract: each turn puts those of one number
-- more after those before it. Assumes nothing.
use mathlib.Core.Path.{◌≡◌}
use Prim.Native.Nat.{◌*◌, ◌≤◌}
use lib.ListN.{length, take}
use Rattle.file_instrs.specs.Limits.{limits_to}
use Rattle.file_instrs.proofs.instr_record.all_limits.Given as goal

abbrev pub invariant-loop-number : goal.invariant-loop-number
invariant-loop-number l =
    (l.number ≤ 30) × (length l.all ≡ 480) × (take (16 * l.number) l.all ≡ limits_to l.number)
