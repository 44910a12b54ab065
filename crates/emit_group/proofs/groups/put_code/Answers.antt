-- `put_code` writes the code of a block that the file has.
-- Assumes nothing.
use native.Mathlib.Omega.{arith}
use Rattle.emit_group.proofs.groups.put_code.Goals as goal

pub returns-then-m : goal.returns-then-m
returns-then-m c = λ ks s. c.emit_block.ensures ks s

pub returns-else-m : goal.returns-else-m
returns-else-m c = λ ks s. absurd (omega (arith, s.inside, c.if-m.false))
