-- The texts of operands as the code puts them together, and the operands of instructions by their
-- PC value.
use mathlib.Core.Path.{◌≡◌, refl, sym, ap}
use Prim.Native.Nat.{ℕ, zero, suc, ◌-◌}
use native.Mathlib.Omega.{arith}
use mathlib.Core.Bool.{Bool, true, false, not, cond}
use lib.Dec.{eqb}
use borrow.Author.Tests.{ne_eqb}
use mathlib.Core.List.{List, [], ◌∷◌, ◌++◌}
use mathlib.Core.Option.{Option, none, some, some-injective, none-ne-some}
use Rattle.armv4t.specs.declared.ShiftKind.TheVariants.{Lsl, Lsr, Asr, Ror}
use Rattle.armv4t.specs.declared.Shift.{Shift}
use Rattle.armv4t.specs.declared.Operand2.{Operand2}
use Rattle.armv4t.specs.declared.Instr.{Instr}
use Rattle.armv4t.specs.Instr.{pc_value}
use Rattle.base_text.specs.Digits.{numeral}
use Rattle.base_text.specs.Doc.{text, dec, ◌▸◌, decimal}
use Rattle.base_text.specs.Flat.{flat}
use Rattle.c_tree.specs.Expr.{udec, int, Expr, lit}
use Rattle.c_tree.specs.Print.{expr_text}
use Rattle.lower_forms.specs.Operands.{bit_of, carry_in, shift_exprs, op2_exprs, operand_of}
use Rattle.base_lists.specs.Lists.{is_some}
use Rattle.emit_operands.specs.Operands.{carry_text}

-- constants
pub one_text : (k : List ℕ) → flat (text "1") k ≡ flat (expr_text (lit int 1)) k
unfolding decimal numeral
one_text k = refl

pub zero_text : (k : List ℕ) → flat (text "0u") k ≡ flat (expr_text (lit udec 0)) k
unfolding decimal numeral
zero_text k = refl

pub carry_in_text : (k : List ℕ) → flat (text "((c[16] >> 29) & 1u)") k ≡ flat (expr_text carry_in) k
unfolding decimal numeral
carry_in_text k = refl

-- a bit
decimal_1 : decimal 1 ≡ 49 ∷ []
unfolding decimal numeral
decimal_1 = refl

pub bit_text : (e : Expr) (n : ℕ) (k : List ℕ)
    → flat (text "((" ▸ expr_text e ▸ text " >> " ▸ dec n ▸ text "u) & 1u)") k
    ≡ flat (expr_text (bit_of e n)) k
bit_text e n k =
    ap (λ (one : List ℕ). flat (text "((" ▸ expr_text e ▸ text " >> " ▸ dec n ▸ text "u) & ")
    (one ++ flat (text "u)") k)) (sym decimal_1)

-- shifted values, by an amount that is not 0
pub lsl_text : (e : Expr) (n : ℕ) → (n ≡ 0 → ⊥) → (k : List ℕ)
    → flat (text "(" ▸ expr_text e ▸ text " << " ▸ dec n ▸ text "u)") k
    ≡ flat (expr_text (shift_exprs e Lsl n).0) k
lsl_text e zero ne k = absurd (ne refl)
lsl_text e (suc n) ne k = refl

pub lsr_text : (e : Expr) (n : ℕ) → (n ≡ 0 → ⊥) → (k : List ℕ)
    → flat (text "(" ▸ expr_text e ▸ text " >> " ▸ dec n ▸ text "u)") k
    ≡ flat (expr_text (shift_exprs e Lsr n).0) k
lsr_text e zero ne k = absurd (ne refl)
lsr_text e (suc n) ne k = refl

pub asr_text : (e : Expr) (n : ℕ) → (n ≡ 0 → ⊥) → (k : List ℕ)
    → flat (text "((uint32_t)((int32_t)" ▸ expr_text e ▸ text " >> " ▸ dec n ▸ text "))") k
    ≡ flat (expr_text (shift_exprs e Asr n).0) k
asr_text e zero ne k = absurd (ne refl)
asr_text e (suc n) ne k = refl

pub ror_text : (e : Expr) (n : ℕ) → (n ≡ 0 → ⊥) → (k : List ℕ)
    → flat (text "ror32(" ▸ expr_text e ▸ text ", " ▸ dec n ▸ text "u)") k
    ≡ flat (expr_text (shift_exprs e Ror n).0) k
ror_text e zero ne k = absurd (ne refl)
ror_text e (suc n) ne k = refl

-- RRX
pub rrx_text : (e : Expr) (k : List ℕ)
    → flat (text "((((c[16] >> 29) & 1u) << 31) | (" ▸ expr_text e ▸ text " >> 1u))") k
    ≡ flat (expr_text (shift_exprs e Ror 0).0) k
unfolding decimal numeral
rrx_text e k = refl

-- carries
pub left_carry : (e : Expr) (n : ℕ) → (n ≡ 0 → ⊥) → (k : List ℕ)
    → flat (expr_text (bit_of e (32 - n))) k ≡ flat (carry_text (shift_exprs e Lsl n).1) k
left_carry e zero ne k = absurd (ne refl)
left_carry e (suc n) ne k = refl

-- to the right, the bit below the amount
below_amount : (e : Expr) (n : ℕ) (k : List ℕ)
    → flat (expr_text (bit_of e (suc n - 1))) k ≡ flat (expr_text (bit_of e n)) k
below_amount e n k =
    let same : suc n - 1 ≡ n = omega arith in ap (λ (m : ℕ). flat (expr_text (bit_of e m)) k) same

pub right_carry : (e : Expr) (n : ℕ) → (n ≡ 0 → ⊥) → (k : List ℕ)
    → flat (expr_text (bit_of e (n - 1))) k ≡ flat (carry_text (shift_exprs e Lsr n).1) k
right_carry e zero ne k = absurd (ne refl)
right_carry e (suc n) ne k = below_amount e n k

pub ror_carry : (e : Expr) (n : ℕ) → (n ≡ 0 → ⊥) → (k : List ℕ)
    → flat (expr_text (bit_of e (n - 1))) k ≡ flat (carry_text (shift_exprs e Ror n).1) k
ror_carry e zero ne k = absurd (ne refl)
ror_carry e (suc n) ne k = below_amount e n k

pub sign_carry : (e : Expr) (k : List ℕ)
    → flat (text "(" ▸ expr_text e ▸ text " >> 31u)") k ≡ flat (carry_text (shift_exprs e Lsr 0).1) k
unfolding decimal numeral
sign_carry e k = refl

pub rrx_carry : (e : Expr) (k : List ℕ)
    → flat (text "(" ▸ expr_text e ▸ text " & 1u)") k ≡ flat (carry_text (shift_exprs e Ror 0).1) k
unfolding decimal numeral
rrx_carry e k = refl

-- Asr has the carry of Lsr
pub asr_carry : (e : Expr) (n : ℕ) → (shift_exprs e Lsr n).1 ≡ (shift_exprs e Asr n).1
asr_carry e zero = refl
asr_carry e (suc n) = refl

-- whether there is a carry
pub lsl_has : (e : Expr) (n : ℕ) → not (eqb n 0) ≡ is_some (shift_exprs e Lsl n).1
lsl_has e zero = refl
lsl_has e (suc n) =
    let nonzero : eqb (suc n) 0 ≡ false = ne_eqb (suc n) 0 (λ p. omega (arith, p)) in ap not nonzero

pub lsr_has : (e : Expr) (n : ℕ) → true ≡ is_some (shift_exprs e Lsr n).1
lsr_has e zero = refl
lsr_has e (suc n) = refl

pub asr_has : (e : Expr) (n : ℕ) → true ≡ is_some (shift_exprs e Asr n).1
asr_has e zero = refl
asr_has e (suc n) = refl

pub ror_has : (e : Expr) (n : ℕ) → true ≡ is_some (shift_exprs e Ror n).1
ror_has e zero = refl
ror_has e (suc n) = refl

pub value_has : (b : Bool) (e : Expr) → not b ≡ is_some (cond b none (some e))
value_has true e = refl
value_has false e = refl

-- the second operand of an instruction, if it has a text
pub operand_of_lem : (i : Instr) (op2 : Operand2) (e : Expr × Option Expr) → op2_exprs i op2 ≡ some e
    → operand_of (pc_value i) op2 ≡ e
operand_of_lem i (Operand2.Imm value rot) e p = some-injective _ _ p
operand_of_lem i (Operand2.Reg rm (Shift.Imm kind amount)) e p = some-injective _ _ p
operand_of_lem i (Operand2.Reg rm (Shift.Reg kind rs)) e p = absurd (none-ne-some _ p)
