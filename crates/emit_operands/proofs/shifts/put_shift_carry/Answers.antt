-- `emit_operands::shifts::put_shift_carry` meets its contract: what its calls write, one after
-- another. Assumes nothing.
use mathlib.Core.Path.{refl, ap}
use Rattle.emit_operands.specs.Operands.{carry_text, source_expr}
use Rattle.base_text.specs.Flat.{flat}
use Rattle.c_tree.specs.Expr.{Expr}
use mathlib.Core.Option.{Option}
use mathlib.Core.List.{[]}
use Rattle.emit_operands.proofs.Operands.{asr_carry}
use Rattle.base_text.proofs.Laws.{wrote_as}
use Rattle.emit_operands.proofs.shifts.put_shift_carry.Goals as goal

pub returns-in-Lsl : goal.returns-in-Lsl
returns-in-Lsl c =
    rw c.in-Lsl.is (wrote_as c.put_left_carry.ensures refl)

pub returns-in-Lsr : goal.returns-in-Lsr
returns-in-Lsr c =
    rw c.in-Lsr.is (wrote_as c.put_right_carry.ensures refl)

pub returns-in-Asr : goal.returns-in-Asr
returns-in-Asr c =
    let a = c.args in
    rw c.in-Asr.is
    (wrote_as c.put_right_carry-in-Asr.ensures
    (ap (λ (o : Option Expr). flat (carry_text o) [])
    (asr_carry (source_expr a.from) a.amount)))

pub returns-in-Ror : goal.returns-in-Ror
returns-in-Ror c =
    rw c.in-Ror.is (wrote_as c.put_ror_carry.ensures refl)
