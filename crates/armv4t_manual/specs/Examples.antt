-- Examples: whole instructions, computed.
use Rattle.std.specs.Prelude.{ℕ, ◌+◌, ◌*◌, ◌%◌, ◌≡◌, refl, true, false}
use Rattle.std.proofs.Math.Option.{Option, none, some}
use Rattle.armv4t.specs.declared.AluOp.TheVariants.{Sub, Add, Mov}
use Rattle.armv4t.specs.declared.ShiftKind.TheVariants.{Lsl, Ror}
use Rattle.armv4t.specs.declared.Shift.{Shift}
use Rattle.armv4t.specs.declared.Operand2.{Operand2}
use Rattle.armv4t.specs.declared.MemWidth.TheVariants.{Word}
use Rattle.armv4t.specs.declared.MemOffset.{MemOffset}
use Rattle.armv4t.specs.declared.Cond.{Cond}
use Rattle.armv4t.specs.declared.Cond.TheVariants.{Eq, Al}
use Rattle.armv4t.specs.declared.Op.{Op}
use Rattle.armv4t.specs.declared.Op.TheVariants.{Alu, Mul, Bx, Branch, ThumbBlHigh, ThumbBlLow}
use Rattle.armv4t.specs.declared.Op.TheVariants.{Mem, BlockMem, Swi}
use Rattle.armv4t.specs.declared.Instr.{Instr}
use Rattle.armv4t_manual.specs.Machine.{Machine, cpsr}
use Rattle.armv4t_manual.specs.Multiple.{listed}
use Rattle.armv4t_manual.specs.Execute.{execute}

-- register k holds 16 * k, flags are clear, and each byte of memory is the low half of its
-- address's low byte
abbrev begin : Machine
begin =
    record {
      r = λ k. 16 * k;
      n = false;
      z = false;
      c = false;
      v = false;
      other_bits = 0;
      mem = λ a. a % 16;
    }

-- the same with 2 more in each register and each byte
abbrev uneven : Machine
uneven =
    record {
      r = λ k. 16 * k + 2;
      n = false;
      z = false;
      c = false;
      v = false;
      other_bits = 0;
      mem = λ a. a % 16 + 2;
    }

-- an ARM instruction at 0x08000000
abbrev at : Cond → Op → Instr
at c op = record { addr = 0x08000000; cond = c; op = op; thumb = false }

-- a Thumb instruction at an address
abbrev thumb : ℕ → Op → Instr
thumb a op = record { addr = a; cond = Al; op = op; thumb = true }

-- two instructions one after the other
abbrev then_execute : Instr → Option (Machine × ℕ) → Option (Machine × ℕ)
then_execute j none = none
then_execute j (some p) = execute j p.0

abbrev both : Instr → Instr → Machine → Option (Machine × ℕ)
both i j m = then_execute j (execute i m)

-- register k after an instruction, the status register, and the key where it goes on
abbrev seen : ℕ → Option (Machine × ℕ) → Option (ℕ × ℕ × ℕ)
seen k none = none
seen k (some p) = some (p.0.r k, cpsr p.0, p.1)

-- subs r0, r1, r1: Z and C
subs : seen 0 (execute (at Al (Alu Sub true 0 1 (Operand2.Reg 1 (Shift.Imm Lsl 0)))) begin)
    ≡ some (0, 0x60000000, 0x08000004)
unfolding execute
subs = refl

-- mov r0, r1, rrx; add r0, pc, #4
rrx : seen 0 (execute (at Al (Alu Mov false 0 0 (Operand2.Reg 1 (Shift.Imm Ror 0)))) begin)
    ≡ some (8, 0, 0x08000004)
unfolding execute
rrx = refl

adr : seen 0 (execute (at Al (Alu Add false 0 15 (Operand2.Imm 4 0))) begin)
    ≡ some (0x0800000c, 0, 0x08000004)
unfolding execute
adr = refl

-- moveq r0, #1 with Z clear leaves r0
not_passed : seen 0 (execute (at Eq (Alu Mov false 0 0 (Operand2.Imm 1 0))) begin)
    ≡ some (0, 0, 0x08000004)
unfolding execute
not_passed = refl

-- ldr r0, [r1, #1]!: the word at 0x10, rotated right by 8, and r1
loads : seen 0 (execute (at Al (Mem true Word false 0 1 (MemOffset.Imm 1) true true true)) begin)
    ≡ some (0x00030201, 0, 0x08000004)
unfolding execute
loads = refl

writes_back_lem : seen 1
    (execute (at Al (Mem true Word false 0 1 (MemOffset.Imm 1) true true true)) begin)
    ≡ some (0x11, 0, 0x08000004)
unfolding execute
writes_back_lem = refl

-- ldmia r13!, {r0, pc}
pops : seen 13 (execute (at Al (BlockMem true 13 0x8001 false true false true)) begin)
    ≡ some (0xd8, 0, 0x07060504)
unfolding execute listed
pops = refl

-- a PC of 0x09080706 loses its low bits in ARM
pops_uneven : seen 13 (execute (at Al (BlockMem true 13 0x8001 false true false true)) uneven)
    ≡ some (0xda, 0, 0x09080704)
unfolding execute listed
pops_uneven = refl

-- bl 0x08000100 with r14; bx r1 to ARM, from 0x12 without its low bits
links : seen 14 (execute (at Al (Branch true 0x08000100)) begin) ≡ some (0x08000004, 0, 0x08000100)
unfolding execute
links = refl

exchanges : seen 0 (execute (at Al (Bx 1)) begin) ≡ some (0, 0, 0x10)
unfolding execute
exchanges = refl

exchanges_uneven : seen 0 (execute (at Al (Bx 1)) uneven) ≡ some (2, 0, 0x10)
unfolding execute
exchanges_uneven = refl

-- both halves of a Thumb BL, one after the other
pair : seen 14
    (both (thumb 0x08000100 (ThumbBlHigh 0x08000104)) (thumb 0x08000102 (ThumbBlLow 3)) begin)
    ≡ some (0x08000105, 0, 0x0800010b)
unfolding execute
pair = refl

-- ADD (5) of Thumb at an address whose PC has bit 1: add r0, pc, #8, with the value as it is and
-- with the bit taken off
add_pc : seen 0 (execute (thumb 0x08000002 (Alu Add false 0 15 (Operand2.Imm 8 0))) begin)
    ≡ some (0x0800000c, 0, 0x08000005)
unfolding execute
add_pc = refl

add_pc_folded : seen 0 (execute (thumb 0x08000002 (Alu Add false 0 15 (Operand2.Imm 6 0))) begin)
    ≡ some (0x0800000c, 0, 0x08000005)
unfolding execute
add_pc_folded = refl

-- MUL with R15 is not said
mul_r15 : seen 0 (execute (at Al (Mul false false 0 0 1 15)) begin) ≡ none
unfolding execute
mul_r15 = refl

-- a Branch of Thumb that links is no instruction
no_thumb_bl : seen 14 (execute (thumb 0x08000000 (Branch true 0x08000100)) begin) ≡ none
unfolding execute
no_thumb_bl = refl

-- SWI is not written out
swi : seen 0 (execute (at Al (Swi 0)) begin) ≡ none
unfolding execute
swi = refl
