-- To be believed: conditions, registers and shifted operands as expressions.
use Rattle.std.specs.Prelude.{ℕ, zero, suc, ◌-◌, ◌/◌, ◌%◌, ◌^◌, cond, List, [], ◌∷◌, eqb}
use Rattle.std.proofs.Math.Option.{Option, none, some}
use Rattle.armv4t.specs.declared.Cond.{Cond}
use Rattle.armv4t.specs.declared.Cond.TheVariants.{Eq, Ne, Cs, Cc, Mi, Pl, Vs, Vc, Hi, Ls, Ge, Lt}
use Rattle.armv4t.specs.declared.Cond.TheVariants.{Gt, Le, Al, Nv}
use Rattle.armv4t.specs.declared.ShiftKind.{ShiftKind}
use Rattle.armv4t.specs.declared.ShiftKind.TheVariants.{Lsl, Lsr, Asr, Ror}
use Rattle.armv4t.specs.declared.Shift.{Shift}
use Rattle.armv4t.specs.declared.Operand2.{Operand2}
use Rattle.armv4t.specs.declared.Instr.{Instr}
use Rattle.armv4t.specs.Instr.{pc_value}
use Rattle.c_tree.specs.Expr.{s32, u32, word, udec, int, x-s, x-cn, x-cz, x-cc, x-cv, reg, lnot}
use Rattle.c_tree.specs.Expr.{shl, shr, eq, ne, band, bor, land, lor, Expr, lit, get, par, un, bin}
use Rattle.c_tree.specs.Expr.{cast, ror}
use Rattle.c_tree.specs.Stmt.{Plain, declare}
use Rattle.c_tree.specs.Preamble.{v32}

-- cond_expr without the parentheses around it: those are printed with the `if`. Nv is taken as Al
abbrev pub cond_expr : Cond → Expr
cond_expr Eq = v32 x-cz
cond_expr Ne = un lnot (v32 x-cz)
cond_expr Cs = v32 x-cc
cond_expr Cc = un lnot (v32 x-cc)
cond_expr Mi = v32 x-cn
cond_expr Pl = un lnot (v32 x-cn)
cond_expr Vs = v32 x-cv
cond_expr Vc = un lnot (v32 x-cv)
cond_expr Hi = bin land (v32 x-cc) (un lnot (v32 x-cz))
cond_expr Ls = bin lor (un lnot (v32 x-cc)) (v32 x-cz)
cond_expr Ge = bin eq (v32 x-cn) (v32 x-cv)
cond_expr Lt = bin ne (v32 x-cn) (v32 x-cv)
cond_expr Gt = bin land (un lnot (v32 x-cz)) (bin eq (v32 x-cn) (v32 x-cv))
cond_expr Le = bin lor (v32 x-cz) (bin ne (v32 x-cn) (v32 x-cv))
cond_expr Al = lit int 1
cond_expr Nv = lit int 1

-- (s_ >> n) & 1u
abbrev pub flag_bit : ℕ → Expr
flag_bit n = bin band (par (bin shr (v32 x-s) (lit int n))) (lit udec 1)

-- the flags, as cond_expr reads them
abbrev pub flags : List Plain
flags =
    declare (u32, x-s) (get (reg 16)) []
    ∷ declare (u32, x-cn) (bin shr (v32 x-s) (lit int 31))
    ((x-cz, flag_bit 30) ∷ (x-cc, flag_bit 29) ∷ (x-cv, flag_bit 28) ∷ [])
    ∷ []

-- a register, or the value pc in the place of PC
abbrev pub reg_of : ℕ → ℕ → Expr
reg_of pc r = cond (eqb r 15) (lit word pc) (get (reg r))

-- reg: a register as an instruction reads it
abbrev pub reg_expr : Instr → ℕ → Expr
reg_expr i r = reg_of (pc_value i) r

-- ((e >> nu) & 1u)
abbrev pub bit_of : Expr → ℕ → Expr
bit_of e n = par (bin band (par (bin shr e (lit udec n))) (lit udec 1))

-- ((c[16] >> 29) & 1u)
abbrev pub carry_in : Expr
carry_in = par (bin band (par (bin shr (get (reg 16)) (lit int 29))) (lit udec 1))

-- ((uint32_t)((int32_t)e >> n))
abbrev pub shift_signed : Expr → ℕ → Expr
shift_signed e n = par (cast u32 (par (bin shr (cast s32 e) (lit int n))))

-- shift_exprs: an operand shifted by an amount as encoded, and the carry out of it; none where C
-- stays as it is
abbrev pub shift_exprs : Expr → ShiftKind → ℕ → Expr × Option Expr
shift_exprs e Lsl zero = (e, none)
shift_exprs e Lsl (suc n) = (par (bin shl e (lit udec (suc n))), some (bit_of e (32 - suc n)))
shift_exprs e Lsr zero = (lit udec 0, some (par (bin shr e (lit udec 31))))
shift_exprs e Lsr (suc n) = (par (bin shr e (lit udec (suc n))), some (bit_of e n))
shift_exprs e Asr zero = (shift_signed e 31, some (par (bin shr e (lit udec 31))))
shift_exprs e Asr (suc n) = (shift_signed e (suc n), some (bit_of e n))
shift_exprs e Ror zero = (
  par (bin bor (par (bin shl carry_in (lit int 31))) (par (bin shr e (lit udec 1)))),
  some (par (bin band e (lit udec 1))),
)
shift_exprs e Ror (suc n) = (ror e (lit udec (suc n)), some (bit_of e n))

-- an operand by the value of PC, and the carry out of it; one that is shifted by a register counts
-- as not shifted
abbrev pub operand_of : ℕ → Operand2 → Expr × Option Expr
operand_of pc (Operand2.Imm value rot) =
    (lit word value, cond (eqb rot 0) none (some (lit udec (value / 2 ^ 31 % 2))))
operand_of pc (Operand2.Reg rm (Shift.Imm kind amount)) = shift_exprs (reg_of pc rm) kind amount
operand_of pc (Operand2.Reg rm (Shift.Reg kind rs)) = (reg_of pc rm, none)

-- op2_exprs: the second operand and the carry out of it; none where the interpreter is to shift by
-- a register
abbrev pub op2_exprs : Instr → Operand2 → Option (Expr × Option Expr)
op2_exprs i (Operand2.Imm value rot) = some (operand_of (pc_value i) (Operand2.Imm value rot))
op2_exprs i (Operand2.Reg rm (Shift.Imm kind amount)) =
    some (operand_of (pc_value i) (Operand2.Reg rm (Shift.Imm kind amount)))
op2_exprs i (Operand2.Reg rm (Shift.Reg kind rs)) = none
