-- `emit_operands::shifts::put_bit` meets its contract: what its calls write, one after another.
-- Assumes nothing.
use mathlib.Core.List.{[]}
use Rattle.emit_operands.specs.Operands.{source_expr}
use Rattle.emit_operands.proofs.Operands.{bit_text}
use Rattle.base_text.proofs.Laws.{wrote_as}
use Rattle.emit_operands.proofs.shifts.put_bit.Goals as goal

pub returns : goal.returns
returns c =
    let a = c.args in
    wrote_as c.put_amount.ensures (bit_text (source_expr a.from) a.n [])
