-- `emit_alu::mul::put_mul` meets its contract: what its calls write, one after another. Assumes
-- nothing.
use Rattle.emit_alu.proofs.Texts.{mul_text}
use mathlib.Core.List.{[]}
use Rattle.base_text.proofs.Laws.{seq, wrote_as}
use Rattle.emit_alu.proofs.mul.put_mul.Goals as goal

pub returns : goal.returns
returns c =
    let m = c.args.m in
    wrote_as (seq c.put_product-p.ensures
    (seq c.put_more-q.ensures (seq c.put_low-v.ensures c.put_nz.ensures)))
    (mul_text m.acc m.s m.rd m.rn m.rs m.rm [])
