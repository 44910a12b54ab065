-- `emit_alu::mul::put_wide` meets its contract: what its calls write, one after another. Assumes
-- nothing.
use mathlib.Core.Path.{refl}
use Rattle.base_text.proofs.Laws.{seq, wrote_as}
use Rattle.emit_alu.proofs.mul.put_wide.Goals as goal

pub returns-then-signed : goal.returns-then-signed
returns-then-signed c =
    rw c.if-signed.true (wrote_as (seq c.put_then_dec-p.ensures c.put.ensures) refl)

pub returns : goal.returns
returns c =
    rw c.if-signed.false (wrote_as (seq c.put_then_dec-q.ensures c.put-2.ensures) refl)
