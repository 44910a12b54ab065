-- Examples: Thumb instructions, computed: with the halfword that encodes each.
use Rattle.std.specs.Prelude.{ℕ, ◌*◌, ◌%◌, ◌≡◌, refl, Bool, true, false}
use Rattle.std.proofs.Math.Option.{Option, none, some}
use Rattle.armv4t.specs.declared.AluOp.TheVariants.{Rsb, Add}
use Rattle.armv4t.specs.declared.Operand2.{Operand2}
use Rattle.armv4t.specs.declared.Cond.TheVariants.{Eq, Ne}
use Rattle.armv4t.specs.declared.Op.TheVariants.{Alu, Branch, BlockMem}
use Rattle.armv4t_manual.specs.Machine.{Machine, cpsr}
use Rattle.armv4t_manual.specs.Multiple.{listed}
use Rattle.armv4t_manual.specs.Thumb.{lsr-1, add-1, neg, add-5, push, pop, stmia, format_1}
use Rattle.armv4t_manual.specs.Thumb.{format_2, format_4, format_6, format_12, format_14}
use Rattle.armv4t_manual.specs.Thumb.{format_15, format_16, format_19_high, format_19_low}
use Rattle.armv4t_manual.specs.Thumb.{decoded, thumb_operation}

-- register k holds 16 * k, C is set or not, other flags are clear, and each byte of memory is the
-- low half of its address's low byte
abbrev begin : Bool → Machine
begin c =
    record {
      r = λ k. 16 * k;
      n = false;
      z = false;
      c = c;
      v = false;
      other_bits = 0x30;
      mem = λ a. a % 16;
    }

-- register k after an instruction, the status register, and the key where it goes on
abbrev seen : ℕ → Option (Machine × ℕ) → Option (ℕ × ℕ × ℕ)
seen k none = none
seen k (some p) = some (p.0.r k, cpsr p.0, p.1)

-- a byte of memory after an instruction
abbrev stored : ℕ → Option (Machine × ℕ) → Option ℕ
stored a none = none
stored a (some p) = some (p.0.mem a)

-- a002 add r0, pc, #8 at an address that ends in 2: PC is aligned, and the record has 8 less 2;
-- a000 has 0 less 2
add_pc : seen 0 (thumb_operation 0x08000002 (format_12 add-5 0 2) (begin false))
    ≡ some (0x0800000c, 0x30, 0x08000005)
unfolding thumb_operation
add_pc = refl

add_pc_record : (decoded 0x08000002 (format_12 add-5 0 2)).op ≡ Alu Add false 0 15 (Operand2.Imm 6 0)
add_pc_record = refl

add_pc_wraps : (decoded 0x08000002 (format_12 add-5 0 0)).op
    ≡ Alu Add false 0 15 (Operand2.Imm 0xfffffffe 0)
add_pc_wraps = refl

-- 4901 ldr r1, [pc, #4] at an address that ends in 2
load_pc : seen 1 (thumb_operation 0x08000002 (format_6 1 1) (begin false))
    ≡ some (0x0b0a0908, 0x30, 0x08000005)
unfolding thumb_operation
load_pc = refl

-- bd01 pop {r0, pc}: r0, and SP after both words; T stays though the word for PC is even
pops : seen 0 (thumb_operation 0x08000000 (format_14 pop true 1) (begin false))
    ≡ some (0x03020100, 0x30, 0x07060505)
unfolding thumb_operation listed
pops = refl

pops_sp : seen 13 (thumb_operation 0x08000000 (format_14 pop true 1) (begin false))
    ≡ some (0xd8, 0x30, 0x07060505)
unfolding thumb_operation listed
pops_sp = refl

pop_record : (decoded 0x08000000 (format_14 pop true 1)).op
    ≡ BlockMem true 13 0x8001 false true false true
pop_record = refl

-- b502 push {r1, lr}: SP, and the low byte of LR above that of r1
pushes : seen 13 (thumb_operation 0x08000000 (format_14 push true 2) (begin false))
    ≡ some (0xc8, 0x30, 0x08000003)
unfolding thumb_operation listed
pushes = refl

pushes_lr : stored 0xcc (thumb_operation 0x08000000 (format_14 push true 2) (begin false))
    ≡ some 0xe0
unfolding thumb_operation listed
pushes_lr = refl

-- c106 stmia r1!, {r1, r2}: the lowest register is stored as it was
stores_base : stored 0x10 (thumb_operation 0x08000000 (format_15 stmia 1 6) (begin false))
    ≡ some 0x10
unfolding thumb_operation listed
stores_base = refl

-- 4248 neg r0, r1: 0 less 16 borrows
negates : seen 0 (thumb_operation 0x08000000 (format_4 neg 1 0) (begin true))
    ≡ some (0xfffffff0, 0x80000030, 0x08000003)
unfolding thumb_operation
negates = refl

neg_record : (decoded 0x08000000 (format_4 neg 1 0)).op ≡ Alu Rsb true 0 1 (Operand2.Imm 0 0)
neg_record = refl

-- 0808 lsr r0, r1, #32: 0, and Z; bit 31 of r1 goes to C
shifts_all : seen 0 (thumb_operation 0x08000000 (format_1 lsr-1 0 1 0) (begin true))
    ≡ some (0, 0x40000030, 0x08000003)
unfolding thumb_operation
shifts_all = refl

-- 1c08 mov r0, r1, which is add r0, r1, #0: C becomes clear
moves : seen 0 (thumb_operation 0x08000000 (format_2 add-1 0 1 0) (begin true))
    ≡ some (0x10, 0x30, 0x08000003)
unfolding thumb_operation
moves = refl

-- d1fc bne, 8 bytes back from PC: taken, since Z is clear; d0fc beq is not
branches_back : seen 0 (thumb_operation 0x08000100 (format_16 Ne 0xfc) (begin false))
    ≡ some (0, 0x30, 0x080000fd)
unfolding thumb_operation
branches_back = refl

branch_record : (decoded 0x08000100 (format_16 Ne 0xfc)).op ≡ Branch false 0x080000fc
branch_record = refl

not_taken : seen 0 (thumb_operation 0x08000100 (format_16 Eq 0xfc) (begin false))
    ≡ some (0, 0x30, 0x08000103)
unfolding thumb_operation
not_taken = refl

-- f7ff: LR becomes PC less 0x1000; f803 from LR, and LR is the address after it with bit 0
bl_high_lem : seen 14 (thumb_operation 0x08002000 (format_19_high 0x7ff) (begin false))
    ≡ some (0x08001004, 0x30, 0x08002003)
unfolding thumb_operation
bl_high_lem = refl

bl_low_lem : seen 14 (thumb_operation 0x08002002 (format_19_low 3) (begin false))
    ≡ some (0x08002005, 0x30, 0xe7)
unfolding thumb_operation
bl_low_lem = refl
