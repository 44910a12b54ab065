-- To be believed: one instruction, the machine after it and where it goes on. A key is an address
-- whose bit 0 stands for T there. None: the manual does not say (Unsaid), or the operation is not
-- written out here, since no native record has it.
use Rattle.std.specs.Prelude.{ℕ, ◌+◌, ◌*◌, ◌/◌, ◌%◌, Bool, true, cond, ◌&&◌, eqb}
use Rattle.std.proofs.Math.Option.{Option, none, some}
use Rattle.base_words.specs.Word.{bit, one_if}
use Rattle.armv4t.specs.declared.AluOp.{AluOp}
use Rattle.armv4t.specs.declared.Operand2.{Operand2}
use Rattle.armv4t.specs.declared.Op.{Op}
use Rattle.armv4t.specs.declared.Op.TheVariants.{Alu, Mul, MulLong, Swap, Bx, Branch, ThumbBlHigh}
use Rattle.armv4t.specs.declared.Op.TheVariants.{ThumbBlLow, Mem, BlockMem, Mrs, MsrReg, MsrImm}
use Rattle.armv4t.specs.declared.Op.TheVariants.{Swi, Undefined}
use Rattle.armv4t.specs.declared.Instr.{Instr}
use Rattle.armv4t.specs.Instr.{size_of, pc_value}
use Rattle.armv4t_manual.specs.Machine.{two32, Machine, R, set_reg, set_t}
use Rattle.armv4t_manual.specs.Conditions.{passed}
use Rattle.armv4t_manual.specs.DataProcessing.{is_add, is_word_offset, data_processing}
use Rattle.armv4t_manual.specs.Multiply.{multiply, multiply_long}
use Rattle.armv4t_manual.specs.Transfer.{offset_value, base, load, store}
use Rattle.armv4t_manual.specs.Multiple.{load_multiple, load_multiple_with_pc, loaded_pc}
use Rattle.armv4t_manual.specs.Multiple.{store_multiple}
use Rattle.armv4t_manual.specs.Unsaid.{no_instruction, unpredictable}

-- the key of an address in a state, T true for Thumb
abbrev pub key : Bool → ℕ → ℕ
key thumb a = a + one_if thumb

-- the address of the instruction after one. Open over the end of the address space (A2.7.1): here
-- it wraps
abbrev pub following : Instr → ℕ
following i = (i.addr + size_of i.thumb) % two32

-- the key of that instruction
abbrev pub key_after : Instr → ℕ
key_after i = key i.thumb (following i)

-- the machine and the key after an instruction that leads on
abbrev pub onward : Instr → Machine → Machine × ℕ
onward i m = (m, key_after i)

-- B, BL (A4.1; A7.1 B (1), B (2)): the target is resolved, over an end of the address space, which
-- is open, by wrapping; L puts the address after the instruction into R14
abbrev pub branch : Instr → Bool → ℕ → Machine → Machine × ℕ
branch i link target m = (cond link (set_reg 14 (following i) m) m, key i.thumb target)

-- BX (A4.1, A7.1): T is Rm[0], and PC Rm AND 0xFFFFFFFE. Open where Rm[1:0] is 0b10: here PC is
-- without both bits
abbrev pub branch_exchange : ℕ → Machine → Machine × ℕ
branch_exchange x m = (set_t (bit x 0) m, key (bit x 0) (cond (bit x 0) (x / 2 * 2) (x / 4 * 4)))

-- LDM (1) with R15 in the list, POP (A7.1): ARMv4 keeps T; PC is the value AND 0xFFFFFFFC, in Thumb
-- AND 0xFFFFFFFE
abbrev pub load_multiple_pc : Instr → Bool → Bool → Bool → ℕ → ℕ → Machine → Machine × ℕ
load_multiple_pc i up pre writeback rn rlist m =
    let x : ℕ = loaded_pc up pre rn rlist m in (
      load_multiple_with_pc up pre writeback rn rlist m,
      key i.thumb
          (cond i.thumb (x / 2 * 2) (x / 4 * 4)),
    )

-- BL of Thumb (A7.1 BL, BLX (1)), H of 10: lr, which the decoder has computed from PC and the
-- offset, goes into R14
abbrev pub bl_high : Instr → ℕ → Machine → Machine × ℕ
bl_high i lr m = onward i (set_reg 14 lr m)

-- BL of Thumb, H of 11: it goes to R14 plus twice its offset, and puts the address after it, with
-- bit 0 set, into R14. An odd R14 before it is open: here PC is without bit 0
abbrev pub bl_low : Instr → ℕ → Machine → Machine × ℕ
bl_low i off m =
    (set_reg 14 (following i / 2 * 2 + 1) m, key true ((m.r 14 + off * 2) % two32 / 2 * 2))

-- whether an instruction has the form of ADD (5) of Thumb (A7.1), with the value that the book has
-- for it: immed_8 * 4. Of a value that is no multiple of 4 the decoder has taken the bits off that
-- PC loses; another such value decodes no instruction
abbrev pub adds_to_pc : Bool → AluOp → ℕ → Operand2 → Bool
adds_to_pc thumb op rn op2 = thumb && is_add op && eqb rn 15 && is_word_offset op2

-- what R15 reads as in a data-processing instruction: ADD (5) takes PC AND 0xFFFFFFFC
abbrev pub pc_read : Instr → AluOp → ℕ → Operand2 → ℕ
pc_read i op rn op2 = cond (adds_to_pc i.thumb op rn op2) (pc_value i / 4 * 4) (pc_value i)

-- an operation, where the condition has passed. Not written out: Alu and Mem with R15 as Rd, and S
-- of a BlockMem
abbrev pub operation : Instr → Op → Machine → Option (Machine × ℕ)
operation i (Alu op s rd rn op2) m =
    cond (eqb rd 15) none (some (onward i (data_processing op s rd rn op2 (pc_read i op rn op2) m)))
operation i (Mul acc s rd rn rs rm) m = some (onward i (multiply acc s rd rn rs rm m))
operation i (MulLong signed acc s hi lo rs rm) m =
    some (onward i (multiply_long signed acc s hi lo rs rm m))
operation i (Swap b rd rm rn) m = none
operation i (Bx rm) m = some (branch_exchange (R m (pc_value i) rm) m)
operation i (Branch link target) m = some (branch i link target m)
operation i (ThumbBlHigh lr) m = some (bl_high i lr m)
operation i (ThumbBlLow off) m = some (bl_low i off m)
operation i (Mem ld width signed rd rn offset pre up writeback) m =
    let x : ℕ = base i.thumb m (pc_value i) rn in
    let off : ℕ = offset_value m (pc_value i) offset in
    cond (eqb rd 15) none
    (some (onward i
    (cond ld (load width signed rd rn x off pre up writeback m)
    (store width rd rn x off pre up writeback m))))
operation i (BlockMem ld rn rlist pre up s_bit writeback) m =
    cond s_bit none
    (some
    (cond ld
    (cond (bit rlist 15) (load_multiple_pc i up pre writeback rn rlist m)
    (onward i (load_multiple up pre writeback rn rlist m)))
    (onward i (store_multiple up pre writeback rn rlist (pc_value i) m))))
operation i (Mrs spsr rd) m = none
operation i (MsrReg spsr fields rm) m = none
operation i (MsrImm spsr fields value) m = none
operation i (Swi imm) m = none
operation i (Undefined raw) m = none

-- an instruction, if the manual says what it does: where its condition fails it only leads on
-- (A3.2)
unfoldable pub execute : Instr → Machine → Option (Machine × ℕ)
execute i m =
    cond (no_instruction i) none
    (cond (passed i.cond m) (cond (unpredictable i.op) none (operation i i.op m))
    (some (onward i m)))
