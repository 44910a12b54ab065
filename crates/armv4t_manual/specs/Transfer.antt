-- To be believed: A5.2, A5.3 Addressing modes 2 and 3, and A4.1: LDR, LDRB, LDRBT, LDRH, LDRSB,
-- LDRSH, LDRT, STR, STRB, STRBT, STRH, STRT.
use Rattle.std.specs.Prelude.{ℕ, ◌+◌, ◌-◌, ◌*◌, ◌/◌, ◌%◌, ◌^◌, ◌≡◌, refl, Bool, true, false, not, cond, ◌&&◌, ◌||◌, eqb}
use Rattle.base_words.specs.Word.{bit}
use Rattle.armv4t.specs.declared.MemWidth.{MemWidth}
use Rattle.armv4t.specs.declared.MemWidth.TheVariants.{Byte, Half, Word}
use Rattle.armv4t.specs.declared.MemOffset.{MemOffset}
use Rattle.armv4t_manual.specs.Machine.{two32, Machine, R, update, set_reg, set_mem}
use Rattle.armv4t_manual.specs.Operators.{rotate_right, SignExtend8, SignExtend16}
use Rattle.armv4t_manual.specs.Shifter.{shifted}

-- byte i after address a. Addresses wrap (A2.7.1); no aligned access goes over the end
abbrev pub byte : (ℕ → ℕ) → ℕ → ℕ → ℕ
byte f a i = f ((a + i) % two32)

-- Memory[a, 2], little-endian (A2.7.2)
abbrev pub Memory2 : (ℕ → ℕ) → ℕ → ℕ
Memory2 f a = f a + byte f a 1 * 2 ^ 8

-- Memory[address, 4], little-endian (A2.7.2): a word is read at its address without bits 1:0 (A2.8)
abbrev pub Memory4 : (ℕ → ℕ) → ℕ → ℕ
Memory4 f address = let a : ℕ = address / 4 * 4 in
    f a + byte f a 1 * 2 ^ 8 + byte f a 2 * 2 ^ 16 + byte f a 3 * 2 ^ 24

-- byte i of x put after address a
abbrev pub set_byte : ℕ → ℕ → ℕ → (ℕ → ℕ) → ℕ → ℕ
set_byte a x i = update ((a + i) % two32) (x / 2 ^ (8 * i) % 256)

-- memory with the low 16 bits of x at a, little-endian
abbrev pub set_memory2 : ℕ → ℕ → (ℕ → ℕ) → ℕ → ℕ
set_memory2 a x f = set_byte a x 1 (update a (x % 256) f)

-- memory with the word x at an address, little-endian: it is written at the address without bits
-- 1:0 (A2.8)
abbrev pub set_memory4 : ℕ → ℕ → (ℕ → ℕ) → ℕ → ℕ
set_memory4 address x f = let a : ℕ = address / 4 * 4 in
    set_byte a x 3 (set_byte a x 2 (set_byte a x 1 (update a (x % 256) f)))

-- the offset: A5.2.2 and A5.3.2 an immediate, A5.2.3, A5.2.4 and A5.3.3 a register, shifted. Open:
-- R15 as that register (also A5.2.6, A5.2.7, A5.2.9, A5.2.10, A5.3.5, A5.3.7), which here reads as
-- PC; and one that is the base, where that is written, which here is read before
abbrev pub offset_value : Machine → ℕ → MemOffset → ℕ
offset_value m pc (MemOffset.Imm value) = value
offset_value m pc (MemOffset.Reg rm s) = (shifted m pc rm s).0

-- U: the base plus or minus the offset
abbrev pub moved : Bool → ℕ → ℕ → ℕ
moved true x off = (x + off) % two32
moved false x off = (x + (two32 - off)) % two32

-- P: the offset counts before the access, or only for the base after it (A5.2.8 to A5.2.10, A5.3.6,
-- A5.3.7)
abbrev pub address : Bool → Bool → ℕ → ℕ → ℕ
address true up x off = moved up x off
address false up x off = x

-- the base as Rn, where R15 reads as pc; in Thumb without its bits 1:0 (A7.1 LDR (3))
abbrev pub base : Bool → Machine → ℕ → ℕ → ℕ
base thumb m pc rn = cond (thumb && eqb rn 15) (pc / 4 * 4) (R m pc rn)

-- what is loaded: LDR rotates its word right by 8 times address[1:0], in Thumb too, where that is
-- open (A7.1 LDR (1), (2), (4)). Open at an odd address (A4.1 LDRH, LDRSH; A7.1): here LDRH rotates
-- the halfword at the address without bit 0 right by 8, and LDRSH takes the byte
abbrev pub loaded : MemWidth → Bool → (ℕ → ℕ) → ℕ → ℕ
loaded Byte false f a = f a
loaded Byte true f a = SignExtend8 (f a)
loaded Half false f a = cond (bit a 0) (rotate_right (Memory2 f (a - 1)) 8) (Memory2 f a)
loaded Half true f a = cond (bit a 0) (SignExtend8 (f a)) (SignExtend16 (Memory2 f a))
loaded Word signed f a = rotate_right (Memory4 f a) (8 * (a % 4))

-- what is stored: the low bits. STR stores at the address without bits 1:0, in Thumb too, where
-- that is open (A7.1 STR (1) to (3)). Open at an odd address (A4.1 STRH; A7.1): here STRH stores at
-- the address without bit 0
abbrev pub stored : MemWidth → ℕ → ℕ → (ℕ → ℕ) → ℕ → ℕ
stored Byte a x f = update a (x % 256) f
stored Half a x f = set_memory2 (cond (bit a 0) (a - 1) a) x f
stored Word a x f = set_memory4 a x f

-- W, or P clear: the base register is written. Open: R15 as that base (A5.2.5 to A5.2.10, A5.3.4 to
-- A5.3.7), which here changes no register below 15; and W with P clear of a halfword or signed byte
-- (A5.3.1), which here is as without W
abbrev pub writes_back : Bool → Bool → Bool
writes_back pre writeback = not pre || writeback

-- a load: the base is written, and then Rd, not R15. Open where Rd is the base that is written
-- (A4.1, by the instruction): here it is loaded
abbrev pub load : MemWidth → Bool → ℕ → ℕ → ℕ → ℕ → Bool → Bool → Bool → Machine → Machine
load width signed rd rn x off pre up writeback m =
    let m1 : Machine = cond (writes_back pre writeback) (set_reg rn (moved up x off) m) m in
    set_reg rd (loaded width signed m.mem (address pre up x off)) m1

-- a store: Rd, not R15, is read before the base is written, also where it is the base, which is
-- open (A4.1, by the instruction)
abbrev pub store : MemWidth → ℕ → ℕ → ℕ → ℕ → Bool → Bool → Bool → Machine → Machine
store width rd rn x off pre up writeback m =
    let m1 : Machine = set_mem (stored width (address pre up x off) (m.r rd) m.mem) m in
    cond (writes_back pre writeback) (set_reg rn (moved up x off) m1) m1

-- memory of which byte a is a: a word at an address that ends in 01 is rotated
rotated : loaded Word false (λ a. a) 0x41 ≡ 0x40434241
rotated = refl

sign : loaded Half true (λ a. a) 0xfe ≡ 0xfffffffe
sign = refl

read_back : Memory4 (set_memory4 0x1002 0x12345678 (λ a. 0)) 0x1001 ≡ 0x12345678
read_back = refl
