-- To be believed: A5.1 Addressing mode 1: shifter_operand and shifter_carry_out.
use Rattle.std.specs.Prelude.{ℕ, zero, suc, ◌+◌, ◌-◌, ◌*◌, ◌%◌, ◌^◌, ◌≡◌, refl, Bool, true, false, cond, ltb, eqb}
use Rattle.base_words.specs.Word.{bit, one_if}
use Rattle.armv4t.specs.declared.ShiftKind.{ShiftKind}
use Rattle.armv4t.specs.declared.ShiftKind.TheVariants.{Lsl, Lsr, Asr, Ror}
use Rattle.armv4t.specs.declared.Shift.{Shift}
use Rattle.armv4t.specs.declared.Operand2.{Operand2}
use Rattle.armv4t_manual.specs.Machine.{Machine, R}
use Rattle.armv4t_manual.specs.Operators.{logical_shift_left, logical_shift_right}
use Rattle.armv4t_manual.specs.Operators.{arithmetic_shift_right, rotate_right}

-- shifts by shift_imm, 0 to 31 as encoded, with the carry flag: A5.1.4 and A5.1.5 LSL, A5.1.7 LSR,
-- A5.1.9 ASR, A5.1.13 RRX (ROR by 0), A5.1.11 ROR
abbrev pub shift : ShiftKind → ℕ → ℕ → Bool → ℕ × Bool
shift Lsl x zero c = (x, c)
shift Lsl x (suc i) c = (logical_shift_left x (suc i), bit x (32 - suc i))
shift Lsr x zero c = (0, bit x 31)
shift Lsr x (suc i) c = (logical_shift_right x (suc i), bit x i)
shift Asr x zero c = (cond (bit x 31) 0xffffffff 0, bit x 31)
shift Asr x (suc i) c = (arithmetic_shift_right x (suc i), bit x i)
shift Ror x zero c = (one_if c * 2 ^ 31 + logical_shift_right x 1, bit x 0)
shift Ror x (suc i) c = (rotate_right x (suc i), bit x i)

-- shifts by Rs[7:0]: A5.1.6 LSL, A5.1.8 LSR, A5.1.10 ASR, A5.1.12 ROR
abbrev pub shift_by : ShiftKind → ℕ → ℕ → Bool → ℕ × Bool
shift_by k x zero c = (x, c)
shift_by Lsl x (suc i) c =
    cond (ltb (suc i) 32) (shift Lsl x (suc i) c) (0, cond (eqb (suc i) 32) (bit x 0) false)
shift_by Lsr x (suc i) c =
    cond (ltb (suc i) 32) (shift Lsr x (suc i) c) (0, cond (eqb (suc i) 32) (bit x 31) false)
shift_by Asr x (suc i) c = cond (ltb (suc i) 32) (shift Asr x (suc i) c) (shift Asr x zero c)
shift_by Ror x (suc i) c = cond (eqb (suc i % 32) 0) (x, bit x 31) (shift Ror x (suc i % 32) c)

-- a register shifted; pc is what R15 reads as
abbrev pub shifted : Machine → ℕ → ℕ → Shift → ℕ × Bool
shifted m pc rm (Shift.Imm kind amount) = shift kind (R m pc rm) amount m.c
shifted m pc rm (Shift.Reg kind rs) = shift_by kind (R m pc rm) (R m pc rs % 256) m.c

-- A5.1.3 an immediate, rotated already, whose carry is its bit 31 where rotate_imm is not 0; A5.1.4
-- to A5.1.13 a register
abbrev pub shifter : Machine → ℕ → Operand2 → ℕ × Bool
shifter m pc (Operand2.Imm value rot) = (value, cond (eqb rot 0) m.c (bit value 31))
shifter m pc (Operand2.Reg rm s) = shifted m pc rm s

-- LSR #32 is encoded as 0; RRX brings the carry in; ROR by 64 leaves the operand and takes its bit
-- 31
lsr_32 : shift Lsr 0x80000001 0 false ≡ (0, true)
lsr_32 = refl

rrx : shift Ror 3 0 true ≡ (0x80000001, true)
rrx = refl

lsl_33 : shift_by Lsl 1 33 true ≡ (0, false)
lsl_33 = refl

ror_64 : shift_by Ror 0x80000001 64 false ≡ (0x80000001, true)
ror_64 = refl
