-- `file_blocks::refusal::check_records` meets its contract: the first broken rule is that of the
-- records still to come. Assumes nothing.
use Rattle.file_records.specs.Trailer.{instr_count}
use Rattle.file_blocks.specs.Refusal.{first_broken, instr_rules}
use Rattle.std.proofs.Common.{◌≡◌, ◌-◌, ◌≤◌}
use Rattle.file_blocks.proofs.refusal.check_records.Given as goal

abbrev pub invariant-loop-i : goal.invariant-loop-i
invariant-loop-i l = (l.i ≤ l.instrs)
    × (first_broken l.file (instr_rules (instr_count l.file) 0)
    ≡ first_broken l.file (instr_rules (l.instrs - l.i) l.i))
