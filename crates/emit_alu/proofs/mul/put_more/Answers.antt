-- `emit_alu::mul::put_more` meets its contract: what its calls write, one after another. Assumes
-- nothing.
use mathlib.Core.Path.{refl}
use borrow.Author.Rules.{rules}
use Rattle.base_text.proofs.Laws.{none, seq, wrote_as}
use Rattle.emit_alu.proofs.mul.put_more.Goals as goal

pub returns-then-acc : goal.returns-then-acc
returns-then-acc c =
    rw c.if-acc.true (wrote_as (seq c.put_then_dec-p.ensures c.put.ensures) refl)

pub returns : goal.returns
returns c =
    rw c.if-acc.false (none (search rules) (search rules))
