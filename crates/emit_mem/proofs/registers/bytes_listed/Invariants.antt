-- `bytes_listed` counts the bytes of the registers listed: n is the bytes of those passed.
-- Assumes nothing.
use Rattle.std.proofs.Common.{◌≡◌, ◌*◌, ◌≤◌, length}
use Rattle.lower_forms.specs.InlineBody.{listed}
use Rattle.emit_mem.proofs.registers.bytes_listed.Given as goal

abbrev pub invariant-loop-r : goal.invariant-loop-r
invariant-loop-r l = (l.n ≤ l.r * 4) × (l.n ≡ length (listed l.rlist l.r) * 4)
