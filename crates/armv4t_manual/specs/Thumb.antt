-- To be believed: the Thumb instructions, their formats, the record that each decodes to, and what
-- A7.1 says that it does. Formats bear the numbers of thumb.rs, and opcodes the names of A7.1:
-- add-1 is ADD (1). Left out are halfwords that no format has, which thumb.rs makes Undefined.
use Rattle.std.specs.Prelude.{ℕ, zero, suc, ◌+◌, ◌-◌, ◌*◌, ◌/◌, ◌%◌, ◌^◌, ◌<◌, ◌≡◌, Bool, true, false, not, cond, ◌&&◌, [], ◌∷◌, ◌++◌, eqb, length}
use Rattle.std.proofs.Math.Option.{Option, none, some}
use Rattle.base_words.specs.Word.{AND, OR, EOR, bit, one_if}
use Rattle.armv4t.specs.declared.AluOp.TheVariants.{And, Eor, Sub, Rsb, Add, Adc, Sbc, Tst, Cmp}
use Rattle.armv4t.specs.declared.AluOp.TheVariants.{Cmn, Orr, Mov, Bic, Mvn}
use Rattle.armv4t.specs.declared.ShiftKind.{ShiftKind}
use Rattle.armv4t.specs.declared.ShiftKind.TheVariants.{Lsl, Lsr, Asr, Ror}
use Rattle.armv4t.specs.declared.Shift.{Shift}
use Rattle.armv4t.specs.declared.Operand2.{Operand2}
use Rattle.armv4t.specs.declared.MemWidth.{MemWidth}
use Rattle.armv4t.specs.declared.MemWidth.TheVariants.{Byte, Half, Word}
use Rattle.armv4t.specs.declared.MemOffset.{MemOffset}
use Rattle.armv4t.specs.declared.Cond.{Cond}
use Rattle.armv4t.specs.declared.Cond.TheVariants.{Al}
use Rattle.armv4t.specs.declared.Op.{Op}
use Rattle.armv4t.specs.declared.Op.TheVariants.{Alu, Mul, Bx, Branch, ThumbBlHigh, ThumbBlLow}
use Rattle.armv4t.specs.declared.Op.TheVariants.{Mem, BlockMem, Swi}
use Rattle.armv4t.specs.declared.Instr.{Instr}
use Rattle.armv4t.specs.Shift.{no_shift}
use Rattle.armv4t.specs.Bit0.{clear_bit0, set_bit0}
use Rattle.armv4t.specs.Cond.{is_al}
use Rattle.armv4t_manual.specs.Machine.{two32, Machine, R, update, set_reg, set_regs, set_flags}
use Rattle.armv4t_manual.specs.Machine.{set_mem}
use Rattle.armv4t_manual.specs.Operators.{logical_shift_left, NOT, minus, SignExtend8}
use Rattle.armv4t_manual.specs.Conditions.{passed}
use Rattle.armv4t_manual.specs.Shifter.{shift, shift_by}
use Rattle.armv4t_manual.specs.DataProcessing.{logical, add_with_carry, sub_with_borrow}
use Rattle.armv4t_manual.specs.Transfer.{Memory4, loaded, stored}
use Rattle.armv4t_manual.specs.Multiple.{listed, load_all, address_after, store_all, lowest}
use Rattle.armv4t_manual.specs.Unsaid.{is_nv}
use Rattle.armv4t_manual.specs.Execute.{key, branch_exchange}

-- the opcodes of format 1: shifts by a value
pub data Opcode1 : Type 0 where
  lsl-1 lsr-1 asr-1 : Opcode1

-- the opcodes of format 2: sums and differences of Rn and a value, or of Rn and Rm
pub data Opcode2 : Type 0 where
  add-1 add-3 sub-1 sub-3 : Opcode2

-- the opcodes of format 3: operations on Rd and a value
pub data Opcode3 : Type 0 where
  mov-1 cmp-1 add-2 sub-2 : Opcode3

-- the opcodes of format 4: operations on Rd and Rm
pub data Opcode4 : Type 0 where
  and eor lsl-2 lsr-2 asr-2 adc sbc ror tst neg cmp-2 cmn orr mul bic mvn : Opcode4

-- the opcodes of format 5: operations on registers up to R15, and BX
pub data Opcode5 : Type 0 where
  add-4 cmp-3 mov-3 bx : Opcode5

-- the opcodes of format 7: transfers of words and bytes, with a register as the offset
pub data Opcode7 : Type 0 where
  str-2 strb-2 ldr-2 ldrb-2 : Opcode7

-- the opcodes of format 8: transfers of halfwords and loads of signed bytes, with a register as the
-- offset
pub data Opcode8 : Type 0 where
  strh-2 ldrsb ldrh-2 ldrsh : Opcode8

-- the opcodes of format 9: transfers of words and bytes, with a value as the offset
pub data Opcode9 : Type 0 where
  str-1 ldr-1 strb-1 ldrb-1 : Opcode9

-- the opcodes of format 10: transfers of halfwords, with a value as the offset
pub data Opcode10 : Type 0 where
  strh-1 ldrh-1 : Opcode10

-- the opcodes of format 11: transfers of words, with SP as the base
pub data Opcode11 : Type 0 where
  str-3 ldr-4 : Opcode11

-- the opcodes of format 12: PC or SP plus a value, to Rd
pub data Opcode12 : Type 0 where
  add-5 add-6 : Opcode12

-- the opcodes of format 13: SP plus or minus a value, to SP
pub data Opcode13 : Type 0 where
  add-7 sub-4 : Opcode13

-- the opcodes of format 14: transfers of several registers, with SP as the base
pub data Opcode14 : Type 0 where
  push pop : Opcode14

-- the opcodes of format 15: transfers of several registers, with Rn as the base
pub data Opcode15 : Type 0 where
  stmia ldmia : Opcode15

-- an instruction with its fields. Format 2 has immed_3 in the place of Rm where its opcode is add-1
-- or sub-1, format 4 Rs in the place of Rm where it is a shift, and BX in format 5 does not use Rd,
-- whose bits should be 0: with others it is open, and here the same. Format 6 is LDR (3), format 16
-- B (1), format 17 SWI, format 18 B (2), and format 19 BL in two halves, H of 10 and H of 11
pub data Thumb : Type 0 where
  format_1 : Opcode1 → (immed rm rd : ℕ) → Thumb
  format_2 : Opcode2 → (rm rn rd : ℕ) → Thumb
  format_3 : Opcode3 → (rd immed : ℕ) → Thumb
  format_4 : Opcode4 → (rm rd : ℕ) → Thumb
  format_5 : Opcode5 → (rm rd : ℕ) → Thumb
  format_6 : (rd immed : ℕ) → Thumb
  format_7 : Opcode7 → (rm rn rd : ℕ) → Thumb
  format_8 : Opcode8 → (rm rn rd : ℕ) → Thumb
  format_9 : Opcode9 → (immed rn rd : ℕ) → Thumb
  format_10 : Opcode10 → (immed rn rd : ℕ) → Thumb
  format_11 : Opcode11 → (rd immed : ℕ) → Thumb
  format_12 : Opcode12 → (rd immed : ℕ) → Thumb
  format_13 : Opcode13 → (immed : ℕ) → Thumb
  format_14 : Opcode14 → (r : Bool) (list : ℕ) → Thumb
  format_15 : Opcode15 → (rn list : ℕ) → Thumb
  format_16 : Cond → (immed : ℕ) → Thumb
  format_17 : (immed : ℕ) → Thumb
  format_18 : (immed : ℕ) → Thumb
  format_19_high : (offset : ℕ) → Thumb
  format_19_low : (offset : ℕ) → Thumb

-- the fields have their widths; B (1) has a condition other than AL and NV
abbrev pub Fits : Thumb → Type 0
Fits (format_1 op immed rm rd) = (immed < 32) × (rm < 8) × (rd < 8)
Fits (format_2 op rm rn rd) = (rm < 8) × (rn < 8) × (rd < 8)
Fits (format_3 op rd immed) = (rd < 8) × (immed < 256)
Fits (format_4 op rm rd) = (rm < 8) × (rd < 8)
Fits (format_5 op rm rd) = (rm < 16) × (rd < 16)
Fits (format_6 rd immed) = (rd < 8) × (immed < 256)
Fits (format_7 op rm rn rd) = (rm < 8) × (rn < 8) × (rd < 8)
Fits (format_8 op rm rn rd) = (rm < 8) × (rn < 8) × (rd < 8)
Fits (format_9 op immed rn rd) = (immed < 32) × (rn < 8) × (rd < 8)
Fits (format_10 op immed rn rd) = (immed < 32) × (rn < 8) × (rd < 8)
Fits (format_11 op rd immed) = (rd < 8) × (immed < 256)
Fits (format_12 op rd immed) = (rd < 8) × (immed < 256)
Fits (format_13 op immed) = immed < 128
Fits (format_14 op r list) = list < 256
Fits (format_15 op rn list) = (rn < 8) × (list < 256)
Fits (format_16 c immed) = (immed < 256) × (is_al c ≡ false) × (is_nv c ≡ false)
Fits (format_17 immed) = immed < 256
Fits (format_18 immed) = immed < 2048
Fits (format_19_high offset) = offset < 2048
Fits (format_19_low offset) = offset < 2048

-- a field of 11 bits with copies of its top bit in front
abbrev pub SignExtend11 : ℕ → ℕ
SignExtend11 x = cond (bit x 10) (x + (two32 - 2 ^ 11)) x

-- the kind of shift that format 1 decodes to
abbrev pub shift_of : Opcode1 → ShiftKind
shift_of lsl-1 = Lsl
shift_of lsr-1 = Lsr
shift_of asr-1 = Asr

-- the operation that format 2 decodes to; rm is immed_3 for add-1 and sub-1
abbrev pub decoded2 : Opcode2 → ℕ → ℕ → ℕ → Op
decoded2 add-1 rm rn rd = Alu Add true rd rn (Operand2.Imm rm 0)
decoded2 add-3 rm rn rd = Alu Add true rd rn (Operand2.Reg rm no_shift)
decoded2 sub-1 rm rn rd = Alu Sub true rd rn (Operand2.Imm rm 0)
decoded2 sub-3 rm rn rd = Alu Sub true rd rn (Operand2.Reg rm no_shift)

-- the operation that format 3 decodes to: Rd is Rn too, but for MOV (1)
abbrev pub decoded3 : Opcode3 → ℕ → ℕ → Op
decoded3 mov-1 rd immed = Alu Mov true rd 0 (Operand2.Imm immed 0)
decoded3 cmp-1 rd immed = Alu Cmp true rd rd (Operand2.Imm immed 0)
decoded3 add-2 rd immed = Alu Add true rd rd (Operand2.Imm immed 0)
decoded3 sub-2 rd immed = Alu Sub true rd rd (Operand2.Imm immed 0)

-- the operation that format 4 decodes to: a shift is a MOV of Rd, shifted by Rs, and NEG is an RSB
-- of Rm with the value 0
abbrev pub decoded4 : Opcode4 → ℕ → ℕ → Op
decoded4 and rm rd = Alu And true rd rd (Operand2.Reg rm no_shift)
decoded4 eor rm rd = Alu Eor true rd rd (Operand2.Reg rm no_shift)
decoded4 lsl-2 rm rd = Alu Mov true rd 0 (Operand2.Reg rd (Shift.Reg Lsl rm))
decoded4 lsr-2 rm rd = Alu Mov true rd 0 (Operand2.Reg rd (Shift.Reg Lsr rm))
decoded4 asr-2 rm rd = Alu Mov true rd 0 (Operand2.Reg rd (Shift.Reg Asr rm))
decoded4 adc rm rd = Alu Adc true rd rd (Operand2.Reg rm no_shift)
decoded4 sbc rm rd = Alu Sbc true rd rd (Operand2.Reg rm no_shift)
decoded4 ror rm rd = Alu Mov true rd 0 (Operand2.Reg rd (Shift.Reg Ror rm))
decoded4 tst rm rd = Alu Tst true rd rd (Operand2.Reg rm no_shift)
decoded4 neg rm rd = Alu Rsb true rd rm (Operand2.Imm 0 0)
decoded4 cmp-2 rm rd = Alu Cmp true rd rd (Operand2.Reg rm no_shift)
decoded4 cmn rm rd = Alu Cmn true rd rd (Operand2.Reg rm no_shift)
decoded4 orr rm rd = Alu Orr true rd rd (Operand2.Reg rm no_shift)
decoded4 mul rm rd = Mul false true rd 0 rm rd
decoded4 bic rm rd = Alu Bic true rd rd (Operand2.Reg rm no_shift)
decoded4 mvn rm rd = Alu Mvn true rd 0 (Operand2.Reg rm no_shift)

-- the operation that format 5 decodes to: of the three that are Alu only CMP (3) sets the flags
abbrev pub decoded5 : Opcode5 → ℕ → ℕ → Op
decoded5 add-4 rm rd = Alu Add false rd rd (Operand2.Reg rm no_shift)
decoded5 cmp-3 rm rd = Alu Cmp true 0 rd (Operand2.Reg rm no_shift)
decoded5 mov-3 rm rd = Alu Mov false rd 0 (Operand2.Reg rm no_shift)
decoded5 bx rm rd = Bx rm

-- a load or store without write-back, its offset added first
abbrev pub mem_op : Bool → MemWidth → Bool → ℕ → ℕ → MemOffset → Op
mem_op ld width signed rd rn offset = Mem ld width signed rd rn offset true true false

-- the operation that format 7 decodes to: the offset is Rm
abbrev pub decoded7 : Opcode7 → ℕ → ℕ → ℕ → Op
decoded7 str-2 rm rn rd = mem_op false Word false rd rn (MemOffset.Reg rm no_shift)
decoded7 strb-2 rm rn rd = mem_op false Byte false rd rn (MemOffset.Reg rm no_shift)
decoded7 ldr-2 rm rn rd = mem_op true Word false rd rn (MemOffset.Reg rm no_shift)
decoded7 ldrb-2 rm rn rd = mem_op true Byte false rd rn (MemOffset.Reg rm no_shift)

-- the operation that format 8 decodes to: the offset is Rm
abbrev pub decoded8 : Opcode8 → ℕ → ℕ → ℕ → Op
decoded8 strh-2 rm rn rd = mem_op false Half false rd rn (MemOffset.Reg rm no_shift)
decoded8 ldrsb rm rn rd = mem_op true Byte true rd rn (MemOffset.Reg rm no_shift)
decoded8 ldrh-2 rm rn rd = mem_op true Half false rd rn (MemOffset.Reg rm no_shift)
decoded8 ldrsh rm rn rd = mem_op true Half true rd rn (MemOffset.Reg rm no_shift)

-- the operation that format 9 decodes to: the offset is immed_5 * 4 for a word, immed_5 for a byte
abbrev pub decoded9 : Opcode9 → ℕ → ℕ → ℕ → Op
decoded9 str-1 immed rn rd = mem_op false Word false rd rn (MemOffset.Imm (immed * 4))
decoded9 ldr-1 immed rn rd = mem_op true Word false rd rn (MemOffset.Imm (immed * 4))
decoded9 strb-1 immed rn rd = mem_op false Byte false rd rn (MemOffset.Imm immed)
decoded9 ldrb-1 immed rn rd = mem_op true Byte false rd rn (MemOffset.Imm immed)

-- the operation that format 10 decodes to: the offset is immed_5 * 2
abbrev pub decoded10 : Opcode10 → ℕ → ℕ → ℕ → Op
decoded10 strh-1 immed rn rd = mem_op false Half false rd rn (MemOffset.Imm (immed * 2))
decoded10 ldrh-1 immed rn rd = mem_op true Half false rd rn (MemOffset.Imm (immed * 2))

-- the operation that format 11 decodes to: the base is SP, and the offset immed_8 * 4
abbrev pub decoded11 : Opcode11 → ℕ → ℕ → Op
decoded11 str-3 rd immed = mem_op false Word false rd 13 (MemOffset.Imm (immed * 4))
decoded11 ldr-4 rd immed = mem_op true Word false rd 13 (MemOffset.Imm (immed * 4))

-- the value of ADD (5), off which thumb.rs takes bit 1 of the address: imm.wrapping_sub(addr & 2)
abbrev pub folded : ℕ → ℕ → ℕ
folded a immed = (immed * 4 + (two32 - a / 2 % 2 * 2)) % two32

-- the operation that format 12 decodes to, at the address a: Rn is PC or SP
abbrev pub decoded12 : ℕ → Opcode12 → ℕ → ℕ → Op
decoded12 a add-5 rd immed = Alu Add false rd 15 (Operand2.Imm (folded a immed) 0)
decoded12 a add-6 rd immed = Alu Add false rd 13 (Operand2.Imm (immed * 4) 0)

-- the operation that format 13 decodes to: Rd and Rn are SP, and the value is immed_7 * 4
abbrev pub decoded13 : Opcode13 → ℕ → Op
decoded13 add-7 immed = Alu Add false 13 13 (Operand2.Imm (immed * 4) 0)
decoded13 sub-4 immed = Alu Sub false 13 13 (Operand2.Imm (immed * 4) 0)

-- the operation that format 14 decodes to: R adds LR to the list of PUSH, which is STMDB SP!, and
-- PC to that of POP, which is LDMIA SP!
abbrev pub decoded14 : Opcode14 → Bool → ℕ → Op
decoded14 push r list = BlockMem false 13 (list + one_if r * 2 ^ 14) true false false true
decoded14 pop r list = BlockMem true 13 (list + one_if r * 2 ^ 15) false true false true

-- the operation that format 15 decodes to: the base is written back
abbrev pub decoded15 : Opcode15 → ℕ → ℕ → Op
decoded15 stmia rn list = BlockMem false rn list false true false true
decoded15 ldmia rn list = BlockMem true rn list false true false true

-- the address plus 4, plus an offset
abbrev pub ahead : ℕ → ℕ → ℕ
ahead a offset = ((a + 4) % two32 + offset) % two32

-- decode_op of thumb.rs, at an address: the condition and the operation
abbrev pub decoded_op : ℕ → Thumb → Cond × Op
decoded_op a (format_1 op immed rm rd) =
    (Al, Alu Mov true rd 0 (Operand2.Reg rm (Shift.Imm (shift_of op) immed)))
decoded_op a (format_2 op rm rn rd) = (Al, decoded2 op rm rn rd)
decoded_op a (format_3 op rd immed) = (Al, decoded3 op rd immed)
decoded_op a (format_4 op rm rd) = (Al, decoded4 op rm rd)
decoded_op a (format_5 op rm rd) = (Al, decoded5 op rm rd)
decoded_op a (format_6 rd immed) = (Al, mem_op true Word false rd 15 (MemOffset.Imm (immed * 4)))
decoded_op a (format_7 op rm rn rd) = (Al, decoded7 op rm rn rd)
decoded_op a (format_8 op rm rn rd) = (Al, decoded8 op rm rn rd)
decoded_op a (format_9 op immed rn rd) = (Al, decoded9 op immed rn rd)
decoded_op a (format_10 op immed rn rd) = (Al, decoded10 op immed rn rd)
decoded_op a (format_11 op rd immed) = (Al, decoded11 op rd immed)
decoded_op a (format_12 op rd immed) = (Al, decoded12 a op rd immed)
decoded_op a (format_13 op immed) = (Al, decoded13 op immed)
decoded_op a (format_14 op r list) = (Al, decoded14 op r list)
decoded_op a (format_15 op rn list) = (Al, decoded15 op rn list)
decoded_op a (format_16 c immed) = (c, Branch false (ahead a (SignExtend8 immed * 2 % two32)))
decoded_op a (format_17 immed) = (Al, Swi immed)
decoded_op a (format_18 immed) = (Al, Branch false (ahead a (SignExtend11 immed * 2 % two32)))
decoded_op a (format_19_high offset) =
    (Al, ThumbBlHigh (ahead a (SignExtend11 offset * 2 ^ 12 % two32)))
decoded_op a (format_19_low offset) = (Al, ThumbBlLow offset)

-- decode_thumb: the record
abbrev pub decoded : ℕ → Thumb → Instr
decoded a t = record { addr = a; cond = (decoded_op a t).0; op = (decoded_op a t).1; thumb = true }

-- what PC reads as: the instruction's address plus 4 (A2.4.3)
abbrev pub PC : ℕ → ℕ
PC a = (a + 4) % two32

-- the address of the next instruction
abbrev pub next : ℕ → ℕ
next a = (a + 2) % two32

-- an instruction that leads on leaves the machine and the next instruction's key
abbrev pub onto : ℕ → Machine → Option (Machine × ℕ)
onto a m = some (m, key true (next a))

-- N and Z of an outcome, and its C and V
abbrev pub flagged : ℕ × Bool × Bool → Machine → Machine
flagged x m = set_flags (bit x.0 31) (eqb x.0 0) x.1 x.2 m

-- these, and Rd
abbrev pub sets : ℕ → ℕ × Bool × Bool → Machine → Machine
sets rd x m = set_reg rd x.0 (flagged x m)

-- Rd from a shift: C from it, V as it was
abbrev pub shifts : ℕ → ℕ × Bool → Machine → Machine
shifts rd q m = sets rd (logical q.0 q.1 m.v) m

-- LSL (1), LSR (1), ASR (1): by immed_5, where 0 stands for 32 in LSR and ASR; the cases are those
-- of A5.1.5, A5.1.7 and A5.1.9
abbrev pub does1 : Opcode1 → ℕ → ℕ → ℕ → Machine → Machine
does1 lsl-1 immed rm rd m = shifts rd (shift Lsl (m.r rm) immed m.c) m
does1 lsr-1 immed rm rd m = shifts rd (shift Lsr (m.r rm) immed m.c) m
does1 asr-1 immed rm rd m = shifts rd (shift Asr (m.r rm) immed m.c) m

-- ADD (1), ADD (3), SUB (1), SUB (3). ADD (1) with an immed_3 of 0 is MOV (2), which clears C and V
abbrev pub does2 : Opcode2 → ℕ → ℕ → ℕ → Machine → Machine
does2 add-1 zero rn rd m = sets rd (m.r rn, false, false) m
does2 add-1 (suc immed) rn rd m = sets rd (add_with_carry (m.r rn) (suc immed) 0) m
does2 add-3 rm rn rd m = sets rd (add_with_carry (m.r rn) (m.r rm) 0) m
does2 sub-1 immed rn rd m = sets rd (sub_with_borrow (m.r rn) immed 0) m
does2 sub-3 rm rn rd m = sets rd (sub_with_borrow (m.r rn) (m.r rm) 0) m

-- MOV (1), CMP (1), ADD (2), SUB (2)
abbrev pub does3 : Opcode3 → ℕ → ℕ → Machine → Machine
does3 mov-1 rd immed m = sets rd (logical immed m.c m.v) m
does3 cmp-1 rd immed m = flagged (sub_with_borrow (m.r rd) immed 0) m
does3 add-2 rd immed m = sets rd (add_with_carry (m.r rd) immed 0) m
does3 sub-2 rd immed m = sets rd (sub_with_borrow (m.r rd) immed 0) m

-- AND, EOR, LSL (2), LSR (2), ASR (2), ADC, SBC, ROR, TST, NEG, CMP (2), CMN, ORR, MUL, BIC, MVN.
-- The shifts are by Rs[7:0], with the cases of A5.1.6, A5.1.8, A5.1.10 and A5.1.12. Open: C after
-- MUL, which here stays, and its outcome where Rd is Rm
abbrev pub does4 : Opcode4 → ℕ → ℕ → Machine → Machine
does4 and rm rd m = sets rd (logical (AND (m.r rd) (m.r rm)) m.c m.v) m
does4 eor rm rd m = sets rd (logical (EOR (m.r rd) (m.r rm)) m.c m.v) m
does4 lsl-2 rs rd m = shifts rd (shift_by Lsl (m.r rd) (m.r rs % 256) m.c) m
does4 lsr-2 rs rd m = shifts rd (shift_by Lsr (m.r rd) (m.r rs % 256) m.c) m
does4 asr-2 rs rd m = shifts rd (shift_by Asr (m.r rd) (m.r rs % 256) m.c) m
does4 adc rm rd m = sets rd (add_with_carry (m.r rd) (m.r rm) (one_if m.c)) m
does4 sbc rm rd m = sets rd (sub_with_borrow (m.r rd) (m.r rm) (one_if (not m.c))) m
does4 ror rs rd m = shifts rd (shift_by Ror (m.r rd) (m.r rs % 256) m.c) m
does4 tst rm rd m = flagged (logical (AND (m.r rd) (m.r rm)) m.c m.v) m
does4 neg rm rd m = sets rd (sub_with_borrow 0 (m.r rm) 0) m
does4 cmp-2 rm rd m = flagged (sub_with_borrow (m.r rd) (m.r rm) 0) m
does4 cmn rm rd m = flagged (add_with_carry (m.r rd) (m.r rm) 0) m
does4 orr rm rd m = sets rd (logical (OR (m.r rd) (m.r rm)) m.c m.v) m
does4 mul rm rd m = sets rd (logical (m.r rm * m.r rd % two32) m.c m.v) m
does4 bic rm rd m = sets rd (logical (AND (m.r rd) (NOT (m.r rm))) m.c m.v) m
does4 mvn rm rd m = sets rd (logical (NOT (m.r rm)) m.c m.v) m

-- ADD (4), CMP (3), MOV (3), BX, where R15 reads as PC. Not written out: ADD (4) and MOV (3) with
-- R15 as Rd. Open: the first three with both registers below 8, and CMP (3) with R15 as Rn, which
-- are here as otherwise
abbrev pub does5 : ℕ → Opcode5 → ℕ → ℕ → Machine → Option (Machine × ℕ)
does5 a add-4 rm rd m =
    cond (eqb rd 15) none (onto a (set_reg rd ((m.r rd + R m (PC a) rm) % two32) m))
does5 a cmp-3 rm rd m = onto a (flagged (sub_with_borrow (R m (PC a) rd) (R m (PC a) rm) 0) m)
does5 a mov-3 rm rd m = cond (eqb rd 15) none (onto a (set_reg rd (R m (PC a) rm) m))
does5 a bx rm rd m = some (branch_exchange (R m (PC a) rm) m)

-- Rd from memory. Open where a word's address is no multiple of 4, or a halfword's is odd: here LDR
-- and the loads of halfwords are as in ARM
abbrev pub loads : MemWidth → Bool → ℕ → ℕ → Machine → Machine
loads width signed rd address m = set_reg rd (loaded width signed m.mem address) m

-- Rd to memory. Open at the same addresses: here STR and STRH are as in ARM
abbrev pub stores : MemWidth → ℕ → ℕ → Machine → Machine
stores width rd address m = set_mem (stored width address (m.r rd) m.mem) m

-- STR (2), STRB (2), LDR (2), LDRB (2): Rn plus Rm
abbrev pub does7 : Opcode7 → ℕ → ℕ → ℕ → Machine → Machine
does7 str-2 rm rn rd m = stores Word rd ((m.r rn + m.r rm) % two32) m
does7 strb-2 rm rn rd m = stores Byte rd ((m.r rn + m.r rm) % two32) m
does7 ldr-2 rm rn rd m = loads Word false rd ((m.r rn + m.r rm) % two32) m
does7 ldrb-2 rm rn rd m = loads Byte false rd ((m.r rn + m.r rm) % two32) m

-- STRH (2), LDRSB, LDRH (2), LDRSH: Rn plus Rm
abbrev pub does8 : Opcode8 → ℕ → ℕ → ℕ → Machine → Machine
does8 strh-2 rm rn rd m = stores Half rd ((m.r rn + m.r rm) % two32) m
does8 ldrsb rm rn rd m = loads Byte true rd ((m.r rn + m.r rm) % two32) m
does8 ldrh-2 rm rn rd m = loads Half false rd ((m.r rn + m.r rm) % two32) m
does8 ldrsh rm rn rd m = loads Half true rd ((m.r rn + m.r rm) % two32) m

-- STR (1), LDR (1): Rn plus immed_5 * 4; STRB (1), LDRB (1): Rn plus immed_5
abbrev pub does9 : Opcode9 → ℕ → ℕ → ℕ → Machine → Machine
does9 str-1 immed rn rd m = stores Word rd ((m.r rn + immed * 4) % two32) m
does9 ldr-1 immed rn rd m = loads Word false rd ((m.r rn + immed * 4) % two32) m
does9 strb-1 immed rn rd m = stores Byte rd ((m.r rn + immed) % two32) m
does9 ldrb-1 immed rn rd m = loads Byte false rd ((m.r rn + immed) % two32) m

-- STRH (1), LDRH (1): Rn plus immed_5 * 2
abbrev pub does10 : Opcode10 → ℕ → ℕ → ℕ → Machine → Machine
does10 strh-1 immed rn rd m = stores Half rd ((m.r rn + immed * 2) % two32) m
does10 ldrh-1 immed rn rd m = loads Half false rd ((m.r rn + immed * 2) % two32) m

-- STR (3), LDR (4): SP plus immed_8 * 4
abbrev pub does11 : Opcode11 → ℕ → ℕ → Machine → Machine
does11 str-3 rd immed m = stores Word rd ((m.r 13 + immed * 4) % two32) m
does11 ldr-4 rd immed m = loads Word false rd ((m.r 13 + immed * 4) % two32) m

-- ADD (5): (PC AND 0xFFFFFFFC) plus immed_8 * 4; ADD (6): SP plus immed_8 * 4
abbrev pub does12 : ℕ → Opcode12 → ℕ → ℕ → Machine → Machine
does12 a add-5 rd immed m = set_reg rd ((PC a / 4 * 4 + immed * 4) % two32) m
does12 a add-6 rd immed m = set_reg rd ((m.r 13 + immed * 4) % two32) m

-- ADD (7), SUB (4): SP plus or minus immed_7 * 4
abbrev pub does13 : Opcode13 → ℕ → Machine → Machine
does13 add-7 immed m = set_reg 13 ((m.r 13 + immed * 4) % two32) m
does13 sub-4 immed m = set_reg 13 (minus (m.r 13) (immed * 4) 0) m

-- PUSH: the registers of the list, and LR where R is set, at rising addresses from SP - 4 * (R +
-- their number), which becomes SP. Open: no register, which is here as otherwise
abbrev pub pushes : Bool → ℕ → Machine → Machine
pushes r list m =
    let start : ℕ = minus (m.r 13) (4 * (one_if r + length (listed list 8))) 0 in
    set_reg 13 start
    (set_mem (store_all m.r (listed list 8 ++ cond r (14 ∷ []) []) start m.mem) m)

-- POP: the registers of the list from rising addresses from SP; SP + 4 * (R + their number) becomes
-- SP. Open: no register, which is here as otherwise
abbrev pub pops : Bool → ℕ → Machine → Machine
pops r list m =
    set_reg 13 ((m.r 13 + 4 * (one_if r + length (listed list 8))) % two32)
    (set_regs (load_all (listed list 8) (m.r 13) m.mem m.r) m)

-- PUSH, POP: where R is set, POP makes PC the word after those of the list AND 0xFFFFFFFE, and
-- ARMv4 keeps T
abbrev pub does14 : ℕ → Opcode14 → Bool → ℕ → Machine → Option (Machine × ℕ)
does14 a push r list m = onto a (pushes r list m)
does14 a pop false list m = onto a (pops false list m)
does14 a pop true list m =
    some (
      pops true list m,
      key true
          (clear_bit0 (Memory4 m.mem (address_after (listed list 8) (m.r 13)))),
    )

-- STMIA, LDMIA: Rn plus 4 times the number of registers becomes Rn. Where LDMIA names Rn, Rn is the
-- value loaded. Where STMIA names Rn as the lowest register, the old value is stored. Open: STMIA
-- with Rn listed and not lowest, where the new value is stored here; an empty list, which is here
-- as otherwise
abbrev pub does15 : Opcode15 → ℕ → ℕ → Machine → Machine
does15 stmia rn list m =
    let new : ℕ = (m.r rn + length (listed list 8) * 4) % two32 in
    let value : ℕ → ℕ = λ i. cond (eqb i rn && not (eqb i (lowest list))) new (m.r i) in
    set_reg rn new (set_mem (store_all value (listed list 8) (m.r rn) m.mem) m)
does15 ldmia rn list m =
    let new : ℕ = (m.r rn + length (listed list 8) * 4) % two32 in
    set_regs (load_all (listed list 8) (m.r rn) m.mem (update rn new m.r)) m

-- a branch by an offset to PC
abbrev pub branches : ℕ → ℕ → Machine → Option (Machine × ℕ)
branches a offset m = some (m, key true ((PC a + offset) % two32))

-- what A7.1 says of an instruction at an address: the machine and the key after it. Not written
-- out: SWI
unfoldable pub thumb_operation : ℕ → Thumb → Machine → Option (Machine × ℕ)
thumb_operation a (format_1 op immed rm rd) m = onto a (does1 op immed rm rd m)
thumb_operation a (format_2 op rm rn rd) m = onto a (does2 op rm rn rd m)
thumb_operation a (format_3 op rd immed) m = onto a (does3 op rd immed m)
thumb_operation a (format_4 op rm rd) m = onto a (does4 op rm rd m)
thumb_operation a (format_5 op rm rd) m = does5 a op rm rd m
-- LDR (3): (PC[31:2] << 2) plus immed_8 * 4
thumb_operation a (format_6 rd immed) m =
    onto a (loads Word false rd ((PC a / 4 * 4 + immed * 4) % two32) m)
thumb_operation a (format_7 op rm rn rd) m = onto a (does7 op rm rn rd m)
thumb_operation a (format_8 op rm rn rd) m = onto a (does8 op rm rn rd m)
thumb_operation a (format_9 op immed rn rd) m = onto a (does9 op immed rn rd m)
thumb_operation a (format_10 op immed rn rd) m = onto a (does10 op immed rn rd m)
thumb_operation a (format_11 op rd immed) m = onto a (does11 op rd immed m)
thumb_operation a (format_12 op rd immed) m = onto a (does12 a op rd immed m)
thumb_operation a (format_13 op immed) m = onto a (does13 op immed m)
thumb_operation a (format_14 op r list) m = does14 a op r list m
thumb_operation a (format_15 op rn list) m = onto a (does15 op rn list m)
-- B (1): if the condition passes, PC plus (SignExtend(signed_immed_8) << 1)
thumb_operation a (format_16 c immed) m =
    cond (passed c m) (branches a (logical_shift_left (SignExtend8 immed) 1) m) (onto a m)
thumb_operation a (format_17 immed) m = none
-- B (2): PC plus (SignExtend(signed_immed_11) << 1)
thumb_operation a (format_18 immed) m = branches a (logical_shift_left (SignExtend11 immed) 1) m
-- BL, H of 10: LR = PC + (SignExtend(offset_11) << 12)
thumb_operation a (format_19_high offset) m =
    onto a (set_reg 14 ((PC a + logical_shift_left (SignExtend11 offset) 12) % two32) m)
-- BL, H of 11: PC = LR + (offset_11 << 1), and LR = (address of next instruction) | 1. Open: an odd
-- LR, which no H of 10 makes; here PC is without bit 0
thumb_operation a (format_19_low offset) m =
    some (
      set_reg 14 (set_bit0 (next a)) m,
      key true
          (clear_bit0 ((m.r 14 + logical_shift_left offset 1) % two32)),
    )
