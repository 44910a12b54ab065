-- `emit_alu::mul::put_mul_long` meets its contract: what its calls write, one after another.
-- Assumes nothing.
use Rattle.emit_alu.proofs.Texts.{mul_long_text}
use mathlib.Core.List.{[]}
use Rattle.base_text.proofs.Laws.{seq, wrote_as}
use Rattle.emit_alu.proofs.mul.put_mul_long.Goals as goal

pub returns : goal.returns
returns c =
    let m = c.args.m in
    wrote_as (seq c.put_long_product-p.ensures
    (seq c.put_long_more-q.ensures (seq c.put_halves-v.ensures c.put_nz64.ensures)))
    (mul_long_text m.signed m.acc m.s m.hi m.lo m.rs m.rm [])
