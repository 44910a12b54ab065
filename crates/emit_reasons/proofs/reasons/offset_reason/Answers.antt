-- `offset_reason` tells a shift by a register, and a rotate with extend.
-- Assumes nothing.
use mathlib.Core.Path.{refl}
use Rattle.emit_reasons.proofs.reasons.offset_reason.Goals as goal

pub returns-in-Imm-shift : goal.returns-in-Imm-shift
returns-in-Imm-shift c =
    rw (c.in-Reg.is, c.in-Imm-shift.is)
    c.extend_reason.ensures

pub returns-in-Reg-shift : goal.returns-in-Reg-shift
returns-in-Reg-shift c = rw (c.in-Reg.is, c.in-Reg-shift.is) refl
