-- `emit_alu::mul::put_halves` meets its contract: what its calls write, one after another. Assumes
-- nothing.
use Rattle.emit_alu.proofs.Texts.{halves_text}
use mathlib.Core.List.{[]}
use Rattle.base_text.proofs.Laws.{seq, wrote_as}
use Rattle.emit_alu.proofs.mul.put_halves.Goals as goal

pub returns : goal.returns
returns c =
    let a = c.args in
    wrote_as (seq c.put_then_dec-p.ensures (seq c.put_then_dec-q.ensures c.put.ensures))
    (halves_text a.hi a.lo [])
