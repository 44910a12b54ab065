-- `operand_reason` tells a shift by a register.
-- Assumes nothing.
use mathlib.Core.Path.{refl}
use Rattle.emit_reasons.proofs.reasons.operand_reason.Goals as goal

pub returns-in-Reg-shift : goal.returns-in-Reg-shift
returns-in-Reg-shift c = rw (c.in-Reg.is, c.in-Reg-shift.is) refl
