-- Steps: the ranges of an operation's fields, as document 01 has them for instruction records,
-- which the proofs of its meaning need; the rotation of a value, which shows in the flag C alone,
-- may be any.
use Rattle.std.specs.Prelude.{◌≡◌, ◌%◌, ◌^◌, ◌<◌, ◌≤◌}
use Rattle.armv4t.specs.declared.Shift.{Shift}
use Rattle.armv4t.specs.declared.Operand2.{Operand2}
use Rattle.armv4t.specs.declared.MemOffset.{MemOffset}
use Rattle.armv4t.specs.declared.Op.{Op}
use Rattle.armv4t.specs.declared.Op.TheVariants.{Alu, Mul, MulLong, Swap, Bx, Branch}
use Rattle.armv4t.specs.declared.Op.TheVariants.{ThumbBlHigh, ThumbBlLow, Mem, BlockMem, Mrs}
use Rattle.armv4t.specs.declared.Op.TheVariants.{MsrReg, MsrImm, Swi, Undefined}

-- an amount below 32, or a register
abbrev pub ShiftInRange : Shift → Type 0
ShiftInRange (Shift.Imm kind amount) = amount < 32
ShiftInRange (Shift.Reg kind rs) = rs ≤ 15

-- a value of 32 bits, or a register with its shift
abbrev pub OperandInRange : Operand2 → Type 0
OperandInRange (Operand2.Imm value rot) = value < 2 ^ 32
OperandInRange (Operand2.Reg rm s) = (rm ≤ 15) × ShiftInRange s

-- a value of 16 bits, or a register with its shift
abbrev pub OffsetInRange : MemOffset → Type 0
OffsetInRange (MemOffset.Imm value) = value < 2 ^ 16
OffsetInRange (MemOffset.Reg rm s) = (rm ≤ 15) × ShiftInRange s

-- registers are 0 to 15, addresses and lists have their bits, and the target of a branch is even
abbrev pub InRange : Op → Type 0
InRange (Alu op s rd rn op2) = (rd ≤ 15) × (rn ≤ 15) × OperandInRange op2
InRange (Mul acc s rd rn rs rm) = (rd ≤ 15) × (rn ≤ 15) × (rs ≤ 15) × (rm ≤ 15)
InRange (MulLong signed acc s hi lo rs rm) = (hi ≤ 15) × (lo ≤ 15) × (rs ≤ 15) × (rm ≤ 15)
InRange (Swap b rd rm rn) = Unit {0}
InRange (Bx rm) = rm ≤ 15
InRange (Branch link target) = (target < 2 ^ 32) × (target % 2 ≡ 0)
InRange (ThumbBlHigh lr) = lr < 2 ^ 32
InRange (ThumbBlLow off) = off < 2 ^ 16
InRange (Mem ld width signed rd rn offset pre up writeback) =
    (rd ≤ 15) × (rn ≤ 15) × OffsetInRange offset
InRange (BlockMem ld rn rlist pre up s_bit writeback) = (rn ≤ 15) × (rlist < 2 ^ 16)
InRange (Mrs spsr rd) = Unit {0}
InRange (MsrReg spsr fields rm) = Unit {0}
InRange (MsrImm spsr fields value) = Unit {0}
InRange (Swi imm) = Unit {0}
InRange (Undefined raw) = Unit {0}
