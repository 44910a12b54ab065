-- To be believed: A4.1 Data processing: ADC, ADD, AND, BIC, CMN, CMP, EOR, MOV, MVN, ORR, RSB, RSC,
-- SBC, SUB, TEQ, TST.
use Rattle.std.specs.Prelude.{ℕ, ◌+◌, ◌%◌, ◌≡◌, refl, Bool, true, false, not, cond, eqb}
use Rattle.base_words.specs.Word.{AND, OR, EOR, bit, one_if}
use Rattle.armv4t.specs.declared.AluOp.{AluOp}
use Rattle.armv4t.specs.declared.AluOp.TheVariants.{And, Eor, Sub, Rsb, Add, Adc, Sbc, Rsc, Tst}
use Rattle.armv4t.specs.declared.AluOp.TheVariants.{Teq, Cmp, Cmn, Orr, Mov, Bic, Mvn}
use Rattle.armv4t.specs.declared.Operand2.{Operand2}
use Rattle.armv4t.specs.AluOp.{is_compare}
use Rattle.armv4t_manual.specs.Machine.{two32, Machine, R, set_reg, set_flags}
use Rattle.armv4t_manual.specs.Operators.{NOT, CarryFrom, minus, BorrowFrom, OverflowFromAdd}
use Rattle.armv4t_manual.specs.Operators.{OverflowFromSub}
use Rattle.armv4t_manual.specs.Shifter.{shifter}

-- a logical outcome: C from the shifter, V as it was
abbrev pub logical : ℕ → Bool → Bool → ℕ × Bool × Bool
logical s co v = (s, co, v)

-- x + y + i with C and V
abbrev pub add_with_carry : ℕ → ℕ → ℕ → ℕ × Bool × Bool
add_with_carry x y i =
    ((x + y + i) % two32, CarryFrom (x + y + i), OverflowFromAdd x y ((x + y + i) % two32))

-- x - y - i with C, which is the borrow inverted, and V
abbrev pub sub_with_borrow : ℕ → ℕ → ℕ → ℕ × Bool × Bool
sub_with_borrow x y i = (minus x y i, not (BorrowFrom x y i), OverflowFromSub x y (minus x y i))

-- the outcome and the new C and V: from Rn, shifter_operand, shifter_carry_out, C and V
abbrev pub alu : AluOp → ℕ → ℕ → Bool → Bool → Bool → ℕ × Bool × Bool
alu And x y co c v = logical (AND x y) co v
alu Eor x y co c v = logical (EOR x y) co v
alu Sub x y co c v = sub_with_borrow x y 0
alu Rsb x y co c v = sub_with_borrow y x 0
alu Add x y co c v = add_with_carry x y 0
alu Adc x y co c v = add_with_carry x y (one_if c)
alu Sbc x y co c v = sub_with_borrow x y (one_if (not c))
alu Rsc x y co c v = sub_with_borrow y x (one_if (not c))
alu Tst x y co c v = logical (AND x y) co v
alu Teq x y co c v = logical (EOR x y) co v
alu Cmp x y co c v = sub_with_borrow x y 0
alu Cmn x y co c v = add_with_carry x y 0
alu Orr x y co c v = logical (OR x y) co v
alu Mov x y co c v = logical y co v
alu Bic x y co c v = logical (AND x (NOT y)) co v
alu Mvn x y co c v = logical (NOT y) co v

-- whether an operation is ADD
abbrev pub is_add : AluOp → Bool
is_add And = false
is_add Eor = false
is_add Sub = false
is_add Rsb = false
is_add Add = true
is_add Adc = false
is_add Sbc = false
is_add Rsc = false
is_add Tst = false
is_add Teq = false
is_add Cmp = false
is_add Cmn = false
is_add Orr = false
is_add Mov = false
is_add Bic = false
is_add Mvn = false

-- whether a second operand is a value that is a multiple of 4
abbrev pub is_word_offset : Operand2 → Bool
is_word_offset (Operand2.Imm value rot) = eqb (value % 4) 0
is_word_offset (Operand2.Reg rm s) = false

-- the machine after an outcome: N and Z from it where S is set, and Rd where the operation is no
-- comparison
abbrev pub settle : AluOp → Bool → ℕ → ℕ × Bool × Bool → Machine → Machine
settle op s rd a m =
    let m1 : Machine = cond s (set_flags (bit a.0 31) (eqb a.0 0) a.1 a.2 m) m in
    cond (is_compare op) m1 (set_reg rd a.0 m1)

-- Rd not R15. R15 in an instruction that shifts by a register is open (A5.1.6, A5.1.8, A5.1.10,
-- A5.1.12): no such shift is native
abbrev pub data_processing : AluOp → Bool → ℕ → ℕ → Operand2 → ℕ → Machine → Machine
data_processing op s rd rn op2 pc m =
    let q : ℕ × Bool = shifter m pc op2 in
    settle op s rd (alu op (R m pc rn) q.0 q.1 m.c m.v) m

-- 0 - 1 borrows, so C is clear; 0x7fffffff + 1 overflows
borrow : alu Sub 0 1 false true false ≡ (0xffffffff, false, false)
borrow = refl

overflow : alu Add 0x7fffffff 1 false false false ≡ (0x80000000, false, true)
overflow = refl
