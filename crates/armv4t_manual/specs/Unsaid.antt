-- To be believed: what is left out of the manual's account here, namely of the records that decode
-- no instruction those whose text does what no instruction of the set does, and the instructions
-- that the manual leaves unpredictable and whose text uses c[15], of which agreement says nothing.
-- What else the manual leaves open is fixed where the operation is written out, and marked by the
-- word "open".
use Rattle.std.specs.Prelude.{ℕ, ◌≡◌, refl, Bool, true, false, not, ◌&&◌, ◌||◌, eqb}
use Rattle.armv4t.specs.declared.Cond.{Cond}
use Rattle.armv4t.specs.declared.Cond.TheVariants.{Eq, Ne, Cs, Cc, Mi, Pl, Vs, Vc, Hi, Ls, Ge, Lt}
use Rattle.armv4t.specs.declared.Cond.TheVariants.{Gt, Le, Al, Nv}
use Rattle.armv4t.specs.Cond.{is_al}
use Rattle.armv4t.specs.declared.Op.{Op}
use Rattle.armv4t.specs.declared.Op.TheVariants.{Alu, Mul, MulLong, Swap, Bx, Branch, ThumbBlHigh}
use Rattle.armv4t.specs.declared.Op.TheVariants.{ThumbBlLow, Mem, BlockMem, Mrs, MsrReg, MsrImm}
use Rattle.armv4t.specs.declared.Op.TheVariants.{Swi, Undefined}
use Rattle.armv4t.specs.declared.Instr.{Instr}

-- whether a record with a condition is left out as no instruction of its set: a Branch of Thumb
-- (A7.1 B (1), B (2)) does not link, and the halves of BL (A7.1) are Thumb's, without a condition
abbrev pub no_instruction_of : Bool → Cond → Op → Bool
no_instruction_of thumb c (Alu op s rd rn op2) = false
no_instruction_of thumb c (Mul acc s rd rn rs rm) = false
no_instruction_of thumb c (MulLong signed acc s hi lo rs rm) = false
no_instruction_of thumb c (Swap b rd rm rn) = false
no_instruction_of thumb c (Bx rm) = false
no_instruction_of thumb c (Branch link target) = thumb && link
no_instruction_of thumb c (ThumbBlHigh lr) = not (thumb && is_al c)
no_instruction_of thumb c (ThumbBlLow off) = not (thumb && is_al c)
no_instruction_of thumb c (Mem ld width signed rd rn offset pre up writeback) = false
no_instruction_of thumb c (BlockMem ld rn rlist pre up s_bit writeback) = false
no_instruction_of thumb c (Mrs spsr rd) = false
no_instruction_of thumb c (MsrReg spsr fields rm) = false
no_instruction_of thumb c (MsrImm spsr fields value) = false
no_instruction_of thumb c (Swi imm) = false
no_instruction_of thumb c (Undefined raw) = false

-- whether a record is left out so, by its set, its condition and its operation
abbrev pub no_instruction : Instr → Bool
no_instruction i = no_instruction_of i.thumb i.cond i.op

-- A4.1 MLA, MUL: R15 as any of the registers
abbrev pub r15_in_mul : Bool → ℕ → ℕ → ℕ → ℕ → Bool
r15_in_mul acc rd rn rs rm = eqb rd 15 || eqb rs 15 || eqb rm 15 || (acc && eqb rn 15)

-- A4.1 SMLAL, SMULL, UMLAL, UMULL: R15 as any of the registers
abbrev pub r15_in_mul_long : ℕ → ℕ → ℕ → ℕ → Bool
r15_in_mul_long hi lo rs rm = eqb hi 15 || eqb lo 15 || eqb rs 15 || eqb rm 15

-- whether an operation is left out as unpredictable
abbrev pub unpredictable : Op → Bool
unpredictable (Alu op s rd rn op2) = false
unpredictable (Mul acc s rd rn rs rm) = r15_in_mul acc rd rn rs rm
unpredictable (MulLong signed acc s hi lo rs rm) = r15_in_mul_long hi lo rs rm
unpredictable (Swap b rd rm rn) = false
unpredictable (Bx rm) = false
unpredictable (Branch link target) = false
unpredictable (ThumbBlHigh lr) = false
unpredictable (ThumbBlLow off) = false
unpredictable (Mem ld width signed rd rn offset pre up writeback) = false
unpredictable (BlockMem ld rn rlist pre up s_bit writeback) = false
unpredictable (Mrs spsr rd) = false
unpredictable (MsrReg spsr fields rm) = false
unpredictable (MsrImm spsr fields value) = false
unpredictable (Swi imm) = false
unpredictable (Undefined raw) = false

-- A3.2.1: the condition NV
abbrev pub is_nv : Cond → Bool
is_nv Eq = false
is_nv Ne = false
is_nv Cs = false
is_nv Cc = false
is_nv Mi = false
is_nv Pl = false
is_nv Vs = false
is_nv Vc = false
is_nv Hi = false
is_nv Ls = false
is_nv Ge = false
is_nv Lt = false
is_nv Gt = false
is_nv Le = false
is_nv Al = false
is_nv Nv = true

-- MUL r0, r15, r1, and MUL r0, r1, r2 with a Rn that it does not have
with_r15 : unpredictable (Mul false false 0 0 1 15) ≡ true
with_r15 = refl

without_r15 : unpredictable (Mul false false 0 15 2 1) ≡ false
without_r15 = refl
