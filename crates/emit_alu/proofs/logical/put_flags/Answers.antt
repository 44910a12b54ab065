-- `emit_alu::logical::put_flags` meets its contract: what its calls write, one after another.
-- Assumes nothing.
use mathlib.Core.Path.{refl}
use borrow.Author.Rules.{rules}
use Rattle.base_text.proofs.Laws.{none, seq, wrote_as}
use Rattle.emit_alu.proofs.logical.put_flags.Goals as goal

pub returns-then-s : goal.returns-then-s
returns-then-s c =
    rw c.if-s.true (wrote_as (seq c.put-p.ensures c.put_logical_c.ensures) refl)

pub returns : goal.returns
returns c =
    rw c.if-s.false (none (search rules) (search rules))
