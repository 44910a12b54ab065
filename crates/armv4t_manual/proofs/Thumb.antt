-- The record that a Thumb instruction decodes to: the manual's reading of it does what A7.1 says of
-- the instruction, its fields are in range, it is an instruction that is not unpredictable, and PC
-- is folded.
use Prim.Native.Nat.{ℕ, zero, suc, ◌+◌, ◌-◌, ◌*◌, ◌/◌, ◌%◌, ◌^◌, ◌≤◌, ◌<◌}
use native.Mathlib.Nat.{mul_comm, mod-lt, mod-eq_of_lt, add-zero, add-mod-mod, add-mod_right}
use native.Mathlib.Omega.{arith}
use mathlib.Core.Path.{◌≡◌, refl, sym, ap, ap₂, fun_ext, ◌∙◌, subst}
use mathlib.Core.Bool.{Bool, true, false, not, cond, ◌&&◌, beq}
use mathlib.Core.List.{List, [], ◌∷◌, ◌++◌, append-nil}
use mathlib.Core.Option.{Option, some}
use lib.Dec.{T, eqb, eqb→eq, leb, leb→le, lit<, lit≤}
use lib.ListN.{length, length-append}
use lib.Pow.{field, mod-mod-pow, shr-shr}
use Rattle.armv4t.specs.declared.AluOp.TheVariants.{Add}
use Rattle.armv4t.specs.declared.Operand2.{Operand2}
use Rattle.armv4t.specs.declared.Op.{Op}
use Rattle.armv4t.specs.declared.Op.TheVariants.{Alu}
use Rattle.armv4t.specs.declared.Cond.{Cond}
use Rattle.armv4t.specs.declared.Cond.TheVariants.{Al}
use Rattle.armv4t.specs.Bit0.{clear_bit0, set_bit0}
use Rattle.base_words.specs.Word.{bit, one_if}
use Rattle.base_words.proofs.Bits.{is_false}
use Rattle.armv4t_manual.specs.Machine.{two32, Machine, Sound, R, update, set_reg, set_regs}
use Rattle.armv4t_manual.specs.Machine.{set_mem}
use Rattle.armv4t.specs.InRange.{InRange}
use Rattle.armv4t_manual.specs.Operators.{CarryFrom, minus, OverflowFromAdd, SignExtend8}
use Rattle.armv4t_manual.specs.DataProcessing.{logical, add_with_carry}
use Rattle.armv4t_manual.specs.Transfer.{Memory4, set_memory4}
use Rattle.armv4t_manual.specs.Multiple.{listed, load_all, address_after, store_all, lowest}
use Rattle.armv4t_manual.specs.Multiple.{stored_for}
use Rattle.armv4t_manual.specs.Unsaid.{no_instruction_of, no_instruction, unpredictable, is_nv}
use Rattle.armv4t_manual.specs.Execute.{key, execute}
use Rattle.armv4t_manual.specs.Thumb.{Opcode1, Opcode2, Opcode3, Opcode4, Opcode5, Opcode7}
use Rattle.armv4t_manual.specs.Thumb.{Opcode8, Opcode9, Opcode10, Opcode11, Opcode12}
use Rattle.armv4t_manual.specs.Thumb.{Opcode13, Opcode14, Opcode15, Thumb, Fits, decoded}
use Rattle.armv4t_manual.specs.Thumb.{decoded2, decoded3, decoded4, decoded5, decoded7}
use Rattle.armv4t_manual.specs.Thumb.{decoded8, decoded9, decoded10, decoded11, decoded12}
use Rattle.armv4t_manual.specs.Thumb.{decoded13, decoded14, decoded15, ahead, SignExtend11}
use Rattle.armv4t_manual.specs.Thumb.{thumb_operation, folded, PC, next, onto, sets}
use Rattle.armv4t_manual.specs.Thumb.{lsl-1, lsr-1, asr-1, add-1, add-3, sub-1, sub-3, mov-1}
use Rattle.armv4t_manual.specs.Thumb.{cmp-1, add-2, sub-2, and, eor, lsl-2, lsr-2, asr-2, adc}
use Rattle.armv4t_manual.specs.Thumb.{sbc, ror, tst, neg, cmp-2, cmn, orr, mul, bic, mvn}
use Rattle.armv4t_manual.specs.Thumb.{add-4, cmp-3, mov-3, bx, str-2, strb-2, ldr-2, ldrb-2}
use Rattle.armv4t_manual.specs.Thumb.{strh-2, ldrsb, ldrh-2, ldrsh, str-1, ldr-1, strb-1}
use Rattle.armv4t_manual.specs.Thumb.{ldrb-1, strh-1, ldrh-1, str-3, ldr-4, add-5, add-6}
use Rattle.armv4t_manual.specs.Thumb.{add-7, sub-4, push, pop, stmia, ldmia}
use Rattle.armv4t_manual.specs.Thumb.{format_1, format_2, format_3, format_4, format_5}
use Rattle.armv4t_manual.specs.Thumb.{format_6, format_7, format_8, format_9, format_10}
use Rattle.armv4t_manual.specs.Thumb.{format_11, format_12, format_13, format_14, format_15}
use Rattle.armv4t_manual.specs.Thumb.{format_16, format_17, format_18, format_19_high}
use Rattle.armv4t_manual.specs.Thumb.{format_19_low}
use Rattle.base_lists.proofs.Each.{Each, each_append, each_map}

-- a register of Thumb's is not R15
pub low : (r : ℕ) → r < 8 → eqb r 15 ≡ false
low r h = is_false (eqb r 15) (λ t. no r h (eqb→eq r 15 t))
  where
    no : (r : ℕ) → r < 8 → r ≡ 15 → ⊥
    no r h e = omega arith

-- the law of one instruction
abbrev Does : ℕ → Thumb → Machine → Type 0
Does a t m = execute (decoded a t) m ≡ thumb_operation a t m

-- Rd becomes x, cut to a word
abbrev puts : ℕ → ℕ → Machine → ℕ → Option (Machine × ℕ)
puts a rd m x = onto a (set_reg rd (x % two32) m)

does_1 : (a : ℕ) (op : Opcode1) (immed rm rd : ℕ) → rm < 8 → rd < 8 → (m : Machine)
    → Does a (format_1 op immed rm rd) m
unfolding execute thumb_operation
does_1 a lsl-1 zero rm rd p q m = rw (low rd q, low rm p)
does_1 a lsl-1 (suc immed) rm rd p q m = rw (low rd q, low rm p)
does_1 a lsr-1 zero rm rd p q m = rw (low rd q, low rm p)
does_1 a lsr-1 (suc immed) rm rd p q m = rw (low rd q, low rm p)
does_1 a asr-1 zero rm rd p q m = rw (low rd q, low rm p)
does_1 a asr-1 (suc immed) rm rd p q m = rw (low rd q, low rm p)

-- x plus 0 is x, with neither carry nor overflow
add_with_carry_zero : (x : ℕ) → x < two32 → add_with_carry x 0 0 ≡ (x, false, false)
add_with_carry_zero x h =
    ap (λ (y : ℕ). (y % two32, CarryFrom y, OverflowFromAdd x 0 (y % two32)))
    (add-zero (x + 0) ∙ add-zero x)
    ∙ ap (λ (y : ℕ). (y, CarryFrom x, OverflowFromAdd x 0 y)) (mod-eq_of_lt h)
    ∙ ap₂ (λ (c v : Bool). (x, c, v)) carry (overflow (bit x 31))
  where
    carry : CarryFrom x ≡ false
    carry = is_false (leb two32 x) (λ t. no x h (leb→le two32 x t))
      where
        no : (x : ℕ) → x < 4294967296 → 4294967296 ≤ x → ⊥
        no x h l = omega arith

    overflow : (b : Bool) → (beq b false && not (beq b b)) ≡ false
    overflow true = refl
    overflow false = refl

does_2 : (a : ℕ) (op : Opcode2) (rm rn rd : ℕ) → rm < 8 → rn < 8 → rd < 8 → (m : Machine) → Sound m
    → Does a (format_2 op rm rn rd) m
unfolding execute thumb_operation
does_2 a add-1 zero rn rd p q h m s =
    rw (low rd h, low rn q)
    (ap (λ (x : ℕ × Bool × Bool). onto a (sets rd x m))
    (add_with_carry_zero (m.r rn) (s.words rn (omega arith))))
does_2 a add-1 (suc rm) rn rd p q h m s = rw (low rd h, low rn q)
does_2 a add-3 rm rn rd p q h m s = rw (low rd h, low rn q, low rm p)
does_2 a sub-1 rm rn rd p q h m s = rw (low rd h, low rn q)
does_2 a sub-3 rm rn rd p q h m s = rw (low rd h, low rn q, low rm p)

does_3 : (a : ℕ) (op : Opcode3) (rd immed : ℕ) → rd < 8 → (m : Machine)
    → Does a (format_3 op rd immed) m
unfolding execute thumb_operation
does_3 a mov-1 rd immed p m = rw (low rd p)
does_3 a cmp-1 rd immed p m = rw (low rd p)
does_3 a add-2 rd immed p m = rw (low rd p)
does_3 a sub-2 rd immed p m = rw (low rd p)

does_4 : (a : ℕ) (op : Opcode4) (rm rd : ℕ) → rm < 8 → rd < 8 → (m : Machine)
    → Does a (format_4 op rm rd) m
unfolding execute thumb_operation
does_4 a and rm rd p q m = rw (low rd q, low rm p)
does_4 a eor rm rd p q m = rw (low rd q, low rm p)
does_4 a lsl-2 rm rd p q m = rw (low rd q, low rm p)
does_4 a lsr-2 rm rd p q m = rw (low rd q, low rm p)
does_4 a asr-2 rm rd p q m = rw (low rd q, low rm p)
does_4 a adc rm rd p q m = rw (low rd q, low rm p)
does_4 a sbc rm rd p q m = rw (low rd q, low rm p)
does_4 a ror rm rd p q m = rw (low rd q, low rm p)
does_4 a tst rm rd p q m = rw (low rd q, low rm p)
does_4 a neg rm rd p q m = rw (low rd q, low rm p)
does_4 a cmp-2 rm rd p q m = rw (low rd q, low rm p)
does_4 a cmn rm rd p q m = rw (low rd q, low rm p)
does_4 a orr rm rd p q m = rw (low rd q, low rm p)
does_4 a mul rm rd p q m =
    rw (low rd q, low rm p)
    (ap (λ (x : ℕ). onto a (sets rd (logical (x % two32) m.c m.v) m))
    (add-zero (m.r rd * m.r rm) ∙ mul_comm (m.r rd) (m.r rm)))
does_4 a bic rm rd p q m = rw (low rd q, low rm p)
does_4 a mvn rm rd p q m = rw (low rd q, low rm p)

does_5 : (a : ℕ) (op : Opcode5) (rm rd : ℕ) (m : Machine) → Does a (format_5 op rm rd) m
unfolding execute thumb_operation
does_5 a add-4 rm rd m = go (eqb rd 15) refl
  where
    go : (b : Bool) → eqb rd 15 ≡ b → Does a (format_5 add-4 rm rd) m
    go true e = rw e
    go false e = rw e (ap (puts a rd m) (add-zero (m.r rd + R m (PC a) rm)))
does_5 a cmp-3 rm rd m = refl
does_5 a mov-3 rm rd m = refl
does_5 a bx rm rd m = refl

does_6 : (a rd immed : ℕ) → rd < 8 → (m : Machine) → Does a (format_6 rd immed) m
unfolding execute thumb_operation
does_6 a rd immed p m = rw (low rd p)

does_7 : (a : ℕ) (op : Opcode7) (rm rn rd : ℕ) → rm < 8 → rn < 8 → rd < 8 → (m : Machine)
    → Does a (format_7 op rm rn rd) m
unfolding execute thumb_operation
does_7 a str-2 rm rn rd p q h m = rw (low rd h, low rn q, low rm p)
does_7 a strb-2 rm rn rd p q h m = rw (low rd h, low rn q, low rm p)
does_7 a ldr-2 rm rn rd p q h m = rw (low rd h, low rn q, low rm p)
does_7 a ldrb-2 rm rn rd p q h m = rw (low rd h, low rn q, low rm p)

does_8 : (a : ℕ) (op : Opcode8) (rm rn rd : ℕ) → rm < 8 → rn < 8 → rd < 8 → (m : Machine)
    → Does a (format_8 op rm rn rd) m
unfolding execute thumb_operation
does_8 a strh-2 rm rn rd p q h m = rw (low rd h, low rn q, low rm p)
does_8 a ldrsb rm rn rd p q h m = rw (low rd h, low rn q, low rm p)
does_8 a ldrh-2 rm rn rd p q h m = rw (low rd h, low rn q, low rm p)
does_8 a ldrsh rm rn rd p q h m = rw (low rd h, low rn q, low rm p)

does_9 : (a : ℕ) (op : Opcode9) (immed rn rd : ℕ) → rn < 8 → rd < 8 → (m : Machine)
    → Does a (format_9 op immed rn rd) m
unfolding execute thumb_operation
does_9 a str-1 immed rn rd p q m = rw (low rd q, low rn p)
does_9 a ldr-1 immed rn rd p q m = rw (low rd q, low rn p)
does_9 a strb-1 immed rn rd p q m = rw (low rd q, low rn p)
does_9 a ldrb-1 immed rn rd p q m = rw (low rd q, low rn p)

does_10 : (a : ℕ) (op : Opcode10) (immed rn rd : ℕ) → rn < 8 → rd < 8 → (m : Machine)
    → Does a (format_10 op immed rn rd) m
unfolding execute thumb_operation
does_10 a strh-1 immed rn rd p q m = rw (low rd q, low rn p)
does_10 a ldrh-1 immed rn rd p q m = rw (low rd q, low rn p)

does_11 : (a : ℕ) (op : Opcode11) (rd immed : ℕ) → rd < 8 → (m : Machine)
    → Does a (format_11 op rd immed) m
unfolding execute thumb_operation
does_11 a str-3 rd immed p m = rw (low rd p)
does_11 a ldr-4 rd immed p m = rw (low rd p)

-- a value that thumb.rs has taken bit 1 off, and one that it has not
pub folded_odd : (a immed : ℕ) → immed < 256 → a / 2 % 2 ≡ 1 → folded a immed % 4 ≡ 2
folded_odd a immed h e = rw e (omega arith)

pub folded_even : (a immed : ℕ) → immed < 256 → a / 2 % 2 ≡ 0 → folded a immed ≡ immed * 4
folded_even a immed h e = rw e (omega arith)

pub multiple : (i : ℕ) → i * 4 % 4 ≡ 0
multiple i = omega arith

-- bit 1 of an address is clear or set
pub by_bit : {G : Type 0} (a : ℕ) → (a / 2 % 2 ≡ 0 → G) → (a / 2 % 2 ≡ 1 → G) → G
by_bit {G} a f g = go (a / 2 % 2) (mod-lt (a / 2) (lit< tt)) refl
  where
    go : (b : ℕ) → b < 2 → a / 2 % 2 ≡ b → G
    go zero l q = f q
    go (suc zero) l q = g q
    go (suc (suc b)) l q = absurd (no b l)
      where
        no : (b : ℕ) → suc (suc b) < 2 → ⊥
        no b l = omega arith

-- ADD (5): PC, or PC AND 0xFFFFFFFC where the value is a multiple of 4, plus the value
add_pc : (a immed : ℕ) → a % 2 ≡ 0 → immed < 256
    → (cond (eqb (folded a immed % 4) 0) (PC a / 4 * 4) (PC a) + folded a immed) % two32
    ≡ (PC a / 4 * 4 + immed * 4) % two32
add_pc a immed e h =
    by_bit a (λ q. rw (folded_even a immed h q, multiple immed))
    (λ q. rw (folded_odd a immed h q, q)
    (add-mod-mod (PC a) (immed * 4 + 4294967294) two32
    ∙ ap (λ (x : ℕ). x % two32) (whole (PC a) immed (pc-odd a e q))
    ∙ add-mod_right (PC a / 4 * 4 + immed * 4) two32))
  where
    pc-odd : (a : ℕ) → a % 2 ≡ 0 → a / 2 % 2 ≡ 1 → (a + 4) % 4294967296 % 4 ≡ 2
    pc-odd a e q = omega arith

    whole : (x i : ℕ) → x % 4 ≡ 2 → x + (i * 4 + 4294967294) ≡ x / 4 * 4 + i * 4 + 4294967296
    whole x i e = omega arith

does_12 : (a : ℕ) (op : Opcode12) (rd immed : ℕ) → a % 2 ≡ 0 → rd < 8 → immed < 256 → (m : Machine)
    → Does a (format_12 op rd immed) m
unfolding execute thumb_operation
does_12 a add-5 rd immed e p h m =
    rw (low rd p)
    (ap (puts a rd m) (add-zero _)
    ∙ ap (λ (x : ℕ). onto a (set_reg rd x m)) (add_pc a immed e h))
does_12 a add-6 rd immed e p h m = rw (low rd p) (ap (puts a rd m) (add-zero (m.r 13 + immed * 4)))

does_13 : (a : ℕ) (op : Opcode13) (immed : ℕ) (m : Machine) → Does a (format_13 op immed) m
unfolding execute thumb_operation
does_13 a add-7 immed m = ap (puts a 13 m) (add-zero (m.r 13 + immed * 4))
does_13 a sub-4 immed m = refl

-- bits 0 to 7 of a number, and those above
bit_low : (x i : ℕ) → i < 8 → bit x i ≡ bit (x % 256) i
bit_low x i h =
    ap (λ (y : ℕ). eqb y 1)
    (sym (ap (λ (k : ℕ). x % 2 ^ k / 2 ^ i % 2) (eight i h)
    ∙ ap (λ (y : ℕ). y % 2) (field x ((7 - i) + 1) i) ∙ mod-mod-pow (x / 2 ^ i) (7 - i) 1))
  where
    eight : (i : ℕ) → i < 8 → 8 ≡ 7 - i + 1 + i
    eight i h = omega arith

bit_high : (x j : ℕ) → bit x (8 + j) ≡ bit (x / 256) j
bit_high x j = ap (λ (y : ℕ). eqb (y % 2) 1) (sym (shr-shr x 8 j))

same_listed : (x y n : ℕ) → ((i : ℕ) → i < n → bit x i ≡ bit y i) → listed x n ≡ listed y n
unfolding listed
same_listed x y zero h = refl
same_listed x y (suc n) h =
    ap₂ (λ (is : List ℕ) (b : Bool). is ++ cond b (n ∷ []) [])
    (same_listed x y n (λ i l. h i (omega (arith, l)))) (h n (omega arith))

-- those of registers 8 to 14 that b holds for, after a list
abbrev above : List ℕ → (ℕ → Bool) → List ℕ
above is b =
    ((((((is ++ cond (b 0) (8 ∷ []) []) ++ cond (b 1) (9 ∷ []) []) ++ cond (b 2) (10 ∷ []) [])
    ++ cond (b 3) (11 ∷ []) []) ++ cond (b 4) (12 ∷ []) [])
    ++ cond (b 5) (13 ∷ []) [])
    ++ cond (b 6) (14 ∷ []) []

listed_15 : (x list k : ℕ) → x % 256 ≡ list → x / 256 ≡ k
    → listed x 15 ≡ above (listed list 8) (bit k)
unfolding listed
listed_15 x list k p q =
    ap₂ above (same_listed x (x % 256) 8 (bit_low x)) (fun_ext (bit_high x))
    ∙ ap₂ (λ (y k : ℕ). above (listed y 8) (bit k)) p q

listed_16 : (x list k : ℕ) → x % 256 ≡ list → x / 256 ≡ k
    → listed x 16 ≡ above (listed list 8) (bit k) ++ cond (bit k 7) (15 ∷ []) []
unfolding listed
listed_16 x list k p q =
    ap₂ (λ (is : List ℕ) (b : Bool). is ++ cond b (15 ∷ []) []) (listed_15 x list k p q)
    (bit_high x 7 ∙ ap (λ (y : ℕ). bit y 7) q)

-- a list of Thumb's: of LDMIA and STMIA, and of PUSH and POP with and without R

plain_15 : (list : ℕ) → list < 256 → listed list 15 ≡ listed list 8
plain_15 list h = listed_15 list list 0 (omega arith) (omega arith) ∙ simp append-nil

plain_16 : (list : ℕ) → list < 256 → listed list 16 ≡ listed list 8
plain_16 list h = listed_16 list list 0 (omega arith) (omega arith) ∙ simp append-nil

pushed : (list : ℕ) (r : Bool) → list < 256
    → listed (list + one_if r * 2 ^ 14) 16 ≡ listed list 8 ++ cond r (14 ∷ []) []
pushed list false h = listed_16 (list + 0) list 0 (omega arith) (omega arith) ∙ simp append-nil
pushed list true h = listed_16 (list + 16384) list 64 (omega arith) (omega arith) ∙ simp append-nil

popped_15 : (list : ℕ) (r : Bool) → list < 256 → listed (list + one_if r * 2 ^ 15) 15 ≡ listed list 8
popped_15 list false h = listed_15 (list + 0) list 0 (omega arith) (omega arith) ∙ simp append-nil
popped_15 list true h =
    listed_15 (list + 32768) list 128 (omega arith) (omega arith) ∙ simp append-nil

popped_16 : (list : ℕ) (r : Bool) → list < 256
    → listed (list + one_if r * 2 ^ 15) 16 ≡ listed list 8 ++ cond r (15 ∷ []) []
popped_16 list false h = listed_16 (list + 0) list 0 (omega arith) (omega arith) ∙ simp append-nil
popped_16 list true h =
    listed_16 (list + 32768) list 128 (omega arith) (omega arith) ∙ simp append-nil

listed_below : (x n : ℕ) → Each (λ i. i < n) (listed x n)
unfolding listed
listed_below x zero = tt
listed_below x (suc n) =
    each_append (λ i. i < suc n) (listed x n) _
    (each_map (λ i. i < n) (λ i. i < suc n) (λ i h. omega (arith, h)) (listed x n)
    (listed_below x n)) (go (bit x n))
  where
    go : (b : Bool) → Each (λ i. i < suc n) (cond b (n ∷ []) [])
    go true = (omega arith, tt)
    go false = tt

-- neither SP nor PC
abbrev Plain : ℕ → Type 0
Plain i = (eqb i 13 ≡ false) × (eqb 13 i ≡ false) × (eqb i 15 ≡ false)

plain : (i : ℕ) → i < 8 → Plain i
plain i h = (
  is_false (eqb i 13) (λ t. no i h (eqb→eq i 13 t)),
  is_false (eqb 13 i)
      (λ t. no i h (sym (eqb→eq 13 i t))),
  low i h,
)
  where
    no : (i : ℕ) → i < 8 → i ≡ 13 → ⊥
    no i h e = omega arith

listed_plain : (list : ℕ) → Each Plain (listed list 8)
listed_plain list = each_map (λ i. i < 8) Plain plain (listed list 8) (listed_below list 8)

length_listed : (x n : ℕ) → length (listed x n) ≤ n
unfolding listed
length_listed x zero = lit≤ tt
length_listed x (suc n) = go (bit x n) (length_listed x n)
  where
    go : (b : Bool) → length (listed x n) ≤ n → length (listed x n ++ cond b (n ∷ []) []) ≤ suc n
    go true h = omega (arith, length-append (listed x n) (n ∷ []))
    go false h = omega (arith, length-append (listed x n) [])

-- R counts for one register more
length_with : (is : List ℕ) (r : Bool) (i : ℕ)
    → length (is ++ cond r (i ∷ []) []) ≡ one_if r + length is
length_with is false i = omega (arith, length-append is [])
length_with is true i = omega (arith, length-append is (i ∷ []))

-- stores depend on the values of the listed registers
same_stores : (r q : ℕ → ℕ) (is : List ℕ) (a : ℕ) (f : ℕ → ℕ) → Each (λ i. r i ≡ q i) is
    → store_all r is a f ≡ store_all q is a f
same_stores r q [] a f h = refl
same_stores r q (i ∷ is) a f h =
    same_stores r q is ((a + 4) % two32) (set_memory4 a (r i) f) h.1
    ∙ ap (λ (x : ℕ). store_all q is ((a + 4) % two32) (set_memory4 a x f)) h.0

-- loads leave SP, and a value written to it before them is there after them
load_keeps : (is : List ℕ) (a : ℕ) (f r : ℕ → ℕ) → Each Plain is → load_all is a f r 13 ≡ r 13
load_keeps [] a f r h = refl
load_keeps (i ∷ is) a f r h =
    load_keeps is ((a + 4) % two32) f (update i (Memory4 f a) r) h.1
    ∙ ap (λ (b : Bool). cond b (Memory4 f a) (r 13)) h.0.1

swap : (i x y : ℕ) (r : ℕ → ℕ) → Plain i → update i x (update 13 y r) ≡ update 13 y (update i x r)
swap i x y r h = fun_ext (λ j. go j (eqb j 13) refl)
  where
    go : (j : ℕ) (b : Bool) → eqb j 13 ≡ b
        → update i x (update 13 y r) j ≡ update 13 y (update i x r) j
    go j true e =
        rw (e, subst (λ (k : ℕ). eqb k i ≡ false) (sym (eqb→eq j 13 (subst T (sym e) tt))) h.1)
    go j false e = rw e

load_swap : (is : List ℕ) (a : ℕ) (f r : ℕ → ℕ) (y : ℕ) → Each Plain is
    → load_all is a f (update 13 y r) ≡ update 13 y (load_all is a f r)
load_swap [] a f r y h = refl
load_swap (i ∷ is) a f r y h =
    ap (load_all is ((a + 4) % two32) f) (swap i (Memory4 f a) y r h.0)
    ∙ load_swap is ((a + 4) % two32) f (update i (Memory4 f a) r) y h.1

-- the start of PUSH
push_start : (x l : ℕ) (r : Bool) → l ≤ 8
    → (x + (two32 - (one_if r + l) * 4)) % two32 ≡ minus x (4 * (one_if r + l)) 0
push_start x l r h =
    sym (ap (λ (y : ℕ). y % two32) (whole x (one_if r + l) (few r))
    ∙ add-mod_right (x + (two32 - (one_if r + l) * 4)) two32)
  where
    few : (r : Bool) → one_if r + l ≤ 9
    few true = omega arith
    few false = omega arith

    whole : (x k : ℕ) → k ≤ 9
        → x + 4294967296 + 4294967296 - 4 * k - 0 ≡ x + (4294967296 - k * 4) + 4294967296
    whole x k h = omega arith

does_push : (a : ℕ) (r : Bool) (list : ℕ) → list < 256 → (m : Machine)
    → Does a (format_14 push r list) m
unfolding execute thumb_operation
does_push a r list h m =
    ap (λ (f : ℕ → ℕ). onto a (set_reg 13 (base (listed x 16)) (set_mem f m)))
    (same_stores values m.r (listed x 16) (base (listed x 16)) m.mem values_same)
    ∙ ap (λ (is : List ℕ). stored is (base is)) (pushed list r h)
    ∙ ap (stored (listed list 8 ++ cond r (14 ∷ []) []))
    (ap (λ (k : ℕ). (m.r 13 + (two32 - k * 4)) % two32) (length_with (listed list 8) r 14)
    ∙ push_start (m.r 13) (length (listed list 8)) r (length_listed list 8))
  where
    x : ℕ
    x = list + one_if r * 2 ^ 14

    base : List ℕ → ℕ
    base is = (m.r 13 + (two32 - length is * 4)) % two32

    values : ℕ → ℕ
    values = stored_for m true 13 x (base (listed x 16)) (PC a)

    stored : List ℕ → ℕ → Option (Machine × ℕ)
    stored is start = onto a (set_reg 13 start (set_mem (store_all m.r is start m.mem) m))

    one : (r : Bool) → Each Plain (cond r (14 ∷ []) [])
    one true = ((refl, refl, refl), tt)
    one false = tt

    value_same : (i : ℕ) → Plain i → values i ≡ m.r i
    value_same i h = rw (h.0, h.2)

    values_same : Each (λ i. values i ≡ m.r i) (listed x 16)
    values_same =
        each_map Plain (λ i. values i ≡ m.r i) value_same (listed x 16)
        (subst (Each Plain) (sym (pushed list r h))
        (each_append Plain (listed list 8) (cond r (14 ∷ []) []) (listed_plain list) (one r)))

-- R of POP is bit 15 of its list
bit_15 : (list : ℕ) (r : Bool) → list < 256 → bit (list + one_if r * 2 ^ 15) 15 ≡ r
bit_15 list false h = ap (λ (x : ℕ). eqb x 1) (clear list h)
  where
    clear : (x : ℕ) → x < 256 → (x + 0) / 32768 % 2 ≡ 0
    clear x h = omega arith
bit_15 list true h = ap (λ (x : ℕ). eqb x 1) (set list h)
  where
    set : (x : ℕ) → x < 256 → (x + 32768) / 32768 % 2 ≡ 1
    set x h = omega arith

module _ (a list : ℕ) (h : list < 256) (m : Machine) where
  -- SP after POP of so many registers
  pop_end : (r : Bool)
      → (m.r 13 + length (listed (list + one_if r * 2 ^ 15) 16) * 4) % two32
      ≡ (m.r 13 + 4 * (one_if r + length (listed list 8))) % two32
  pop_end r =
      ap (λ (k : ℕ). (m.r 13 + k) % two32)
      (ap (λ (is : List ℕ). length is * 4) (popped_16 list r h)
      ∙ ap (λ (k : ℕ). k * 4) (length_with (listed list 8) r 15)
      ∙ mul_comm (one_if r + length (listed list 8)) 4)

  does_pop : (r : Bool) → Does a (format_14 pop r list) m
  unfolding execute thumb_operation
  does_pop false =
      rw (bit_15 list false h)
      (ap₂ (λ (is : List ℕ) (y : ℕ). onto a
      (set_regs (load_all is (m.r 13) m.mem (update 13 y m.r)) m)) (popped_15 list false h)
      (pop_end false)
      ∙ ap (λ (f : ℕ → ℕ). onto a (set_regs f m))
      (load_swap (listed list 8) (m.r 13) m.mem m.r _ (listed_plain list)))
  does_pop true =
      rw (bit_15 list true h)
      (ap (λ (is : List ℕ). loaded is (load_all is (m.r 13) m.mem m.r 13))
      (popped_15 list true h)
      ∙ ap (loaded (listed list 8))
      (load_keeps (listed list 8) (m.r 13) m.mem m.r (listed_plain list))
      ∙ ap (λ (y : ℕ). ended (listed list 8) y) (pop_end true))
    where
      ended : List ℕ → ℕ → Option (Machine × ℕ)
      ended is y =
          some (
            set_reg 13 y (set_regs (load_all is (m.r 13) m.mem m.r) m),
            key true
                (clear_bit0 (Memory4 m.mem (address_after is (m.r 13)))),
          )

      loaded : List ℕ → ℕ → Option (Machine × ℕ)
      loaded is x = ended is ((x + length (listed (list + 2 ^ 15) 16) * 4) % two32)

does_14 : (a : ℕ) (op : Opcode14) (r : Bool) (list : ℕ) → list < 256 → (m : Machine)
    → Does a (format_14 op r list) m
does_14 a push r list h m = does_push a r list h m
does_14 a pop r list h m = does_pop a list h m r

does_15 : (a : ℕ) (op : Opcode15) (rn list : ℕ) → list < 256 → (m : Machine)
    → Does a (format_15 op rn list) m
unfolding execute thumb_operation
does_15 a stmia rn list h m =
    ap (λ (f : ℕ → ℕ). onto a (set_reg rn (new (listed list 16)) (set_mem f m)))
    (same_stores values (value (new (listed list 16))) (listed list 16) (m.r rn) m.mem
    values_same)
    ∙ ap (λ (is : List ℕ). onto a
    (set_reg rn (new is) (set_mem (store_all (value (new is)) is (m.r rn) m.mem) m)))
    (plain_16 list h)
  where
    new : List ℕ → ℕ
    new is = (m.r rn + length is * 4) % two32

    value : ℕ → ℕ → ℕ
    value y i = cond (eqb i rn && not (eqb i (lowest list))) y (m.r i)

    values : ℕ → ℕ
    values = stored_for m true rn list (new (listed list 16)) (PC a)

    value_same : (i : ℕ) → Plain i → values i ≡ value (new (listed list 16)) i
    value_same i h = rw h.2

    values_same : Each (λ i. values i ≡ value (new (listed list 16)) i) (listed list 16)
    values_same =
        each_map Plain (λ i. values i ≡ value (new (listed list 16)) i) value_same (listed list 16)
        (subst (Each Plain) (sym (plain_16 list h)) (listed_plain list))
does_15 a ldmia rn list h m =
    rw (ap (λ (x : ℕ). eqb x 1) (clear list h))
    (ap₂ (λ (is js : List ℕ). onto a
    (set_regs
    (load_all is (m.r rn) m.mem (update rn ((m.r rn + length js * 4) % two32) m.r)) m))
    (plain_15 list h) (plain_16 list h))
  where
    clear : (x : ℕ) → x < 256 → x / 32768 % 2 ≡ 0
    clear x h = omega arith

does_16 : (a : ℕ) (c : Cond) (immed : ℕ) (m : Machine) → Does a (format_16 c immed) m
unfolding execute thumb_operation
does_16 a c immed m = refl

does_17 : (a immed : ℕ) (m : Machine) → Does a (format_17 immed) m
unfolding execute thumb_operation
does_17 a immed m = refl

does_18 : (a immed : ℕ) (m : Machine) → Does a (format_18 immed) m
unfolding execute thumb_operation
does_18 a immed m = refl

does_19_high : (a offset : ℕ) (m : Machine) → Does a (format_19_high offset) m
unfolding execute thumb_operation
does_19_high a offset m = refl

does_19_low : (a offset : ℕ) (m : Machine) → Does a (format_19_low offset) m
unfolding execute thumb_operation
does_19_low a offset m =
    ap (λ (x : ℕ). some (set_reg 14 (set_bit0 (next a)) m, key true (clear_bit0 x)))
    (sym (add-mod-mod (m.r 14) (offset * 2) two32))

-- the manual's reading of the record that an instruction decodes to is what A7.1 says of the
-- instruction
pub thumb_executes : (a : ℕ) (t : Thumb) → Fits t → a % 2 ≡ 0 → (m : Machine) → Sound m
    → execute (decoded a t) m ≡ thumb_operation a t m
thumb_executes a (format_1 op immed rm rd) h e m s = does_1 a op immed rm rd h.1 h.2 m
thumb_executes a (format_2 op rm rn rd) h e m s = does_2 a op rm rn rd h.0 h.1 h.2 m s
thumb_executes a (format_3 op rd immed) h e m s = does_3 a op rd immed h.0 m
thumb_executes a (format_4 op rm rd) h e m s = does_4 a op rm rd h.0 h.1 m
thumb_executes a (format_5 op rm rd) h e m s = does_5 a op rm rd m
thumb_executes a (format_6 rd immed) h e m s = does_6 a rd immed h.0 m
thumb_executes a (format_7 op rm rn rd) h e m s = does_7 a op rm rn rd h.0 h.1 h.2 m
thumb_executes a (format_8 op rm rn rd) h e m s = does_8 a op rm rn rd h.0 h.1 h.2 m
thumb_executes a (format_9 op immed rn rd) h e m s = does_9 a op immed rn rd h.1 h.2 m
thumb_executes a (format_10 op immed rn rd) h e m s = does_10 a op immed rn rd h.1 h.2 m
thumb_executes a (format_11 op rd immed) h e m s = does_11 a op rd immed h.0 m
thumb_executes a (format_12 op rd immed) h e m s = does_12 a op rd immed e h.0 h.1 m
thumb_executes a (format_13 op immed) h e m s = does_13 a op immed m
thumb_executes a (format_14 op r list) h e m s = does_14 a op r list h m
thumb_executes a (format_15 op rn list) h e m s = does_15 a op rn list h.1 m
thumb_executes a (format_16 c immed) h e m s = does_16 a c immed m
thumb_executes a (format_17 immed) h e m s = does_17 a immed m
thumb_executes a (format_18 immed) h e m s = does_18 a immed m
thumb_executes a (format_19_high offset) h e m s = does_19_high a offset m
thumb_executes a (format_19_low offset) h e m s = does_19_low a offset m

-- the ranges of Rd and Rn with Rm, not shifted, and with a value or an offset
with_register : (rd rn rm : ℕ) → rd < 8 → rn < 8 → rm < 8
    → (rd ≤ 15) × (rn ≤ 15) × ((rm ≤ 15) × (0 < 32))
with_register rd rn rm p q h = (omega arith, omega arith, (omega arith, lit< tt))

with_number : (rd rn n x : ℕ) → rd < 8 → rn < 8 → x < n → (rd ≤ 15) × (rn ≤ 15) × (x < n)
with_number rd rn n x p q h = (omega arith, omega arith, h)

in_range_2 : (op : Opcode2) (rm rn rd : ℕ) → rm < 8 → rn < 8 → rd < 8
    → InRange (decoded2 op rm rn rd)
in_range_2 add-1 rm rn rd p q h = with_number rd rn _ rm h q (omega arith)
in_range_2 add-3 rm rn rd p q h = with_register rd rn rm h q p
in_range_2 sub-1 rm rn rd p q h = with_number rd rn _ rm h q (omega arith)
in_range_2 sub-3 rm rn rd p q h = with_register rd rn rm h q p

in_range_3 : (op : Opcode3) (rd immed : ℕ) → rd < 8 → immed < 256 → InRange (decoded3 op rd immed)
in_range_3 mov-1 rd immed p h = with_number rd 0 _ immed p (lit< tt) (omega arith)
in_range_3 cmp-1 rd immed p h = with_number rd rd _ immed p p (omega arith)
in_range_3 add-2 rd immed p h = with_number rd rd _ immed p p (omega arith)
in_range_3 sub-2 rd immed p h = with_number rd rd _ immed p p (omega arith)

in_range_4 : (op : Opcode4) (rm rd : ℕ) → rm < 8 → rd < 8 → InRange (decoded4 op rm rd)
in_range_4 and rm rd p h = with_register rd rd rm h h p
in_range_4 eor rm rd p h = with_register rd rd rm h h p
in_range_4 lsl-2 rm rd p h = (omega arith, lit≤ tt, (omega arith, omega arith))
in_range_4 lsr-2 rm rd p h = (omega arith, lit≤ tt, (omega arith, omega arith))
in_range_4 asr-2 rm rd p h = (omega arith, lit≤ tt, (omega arith, omega arith))
in_range_4 adc rm rd p h = with_register rd rd rm h h p
in_range_4 sbc rm rd p h = with_register rd rd rm h h p
in_range_4 ror rm rd p h = (omega arith, lit≤ tt, (omega arith, omega arith))
in_range_4 tst rm rd p h = with_register rd rd rm h h p
in_range_4 neg rm rd p h = with_number rd rm _ 0 h p (lit< tt)
in_range_4 cmp-2 rm rd p h = with_register rd rd rm h h p
in_range_4 cmn rm rd p h = with_register rd rd rm h h p
in_range_4 orr rm rd p h = with_register rd rd rm h h p
in_range_4 mul rm rd p h = (omega arith, lit≤ tt, omega arith, omega arith)
in_range_4 bic rm rd p h = with_register rd rd rm h h p
in_range_4 mvn rm rd p h = with_register rd 0 rm h (lit< tt) p

in_range_5 : (op : Opcode5) (rm rd : ℕ) → rm < 16 → rd < 16 → InRange (decoded5 op rm rd)
in_range_5 add-4 rm rd p h = (omega arith, omega arith, (omega arith, lit< tt))
in_range_5 cmp-3 rm rd p h = (lit≤ tt, omega arith, (omega arith, lit< tt))
in_range_5 mov-3 rm rd p h = (omega arith, lit≤ tt, (omega arith, lit< tt))
in_range_5 bx rm rd p h = omega arith

in_range_7 : (op : Opcode7) (rm rn rd : ℕ) → rm < 8 → rn < 8 → rd < 8
    → InRange (decoded7 op rm rn rd)
in_range_7 str-2 rm rn rd p q h = with_register rd rn rm h q p
in_range_7 strb-2 rm rn rd p q h = with_register rd rn rm h q p
in_range_7 ldr-2 rm rn rd p q h = with_register rd rn rm h q p
in_range_7 ldrb-2 rm rn rd p q h = with_register rd rn rm h q p

in_range_8 : (op : Opcode8) (rm rn rd : ℕ) → rm < 8 → rn < 8 → rd < 8
    → InRange (decoded8 op rm rn rd)
in_range_8 strh-2 rm rn rd p q h = with_register rd rn rm h q p
in_range_8 ldrsb rm rn rd p q h = with_register rd rn rm h q p
in_range_8 ldrh-2 rm rn rd p q h = with_register rd rn rm h q p
in_range_8 ldrsh rm rn rd p q h = with_register rd rn rm h q p

in_range_9 : (op : Opcode9) (immed rn rd : ℕ) → immed < 32 → rn < 8 → rd < 8
    → InRange (decoded9 op immed rn rd)
in_range_9 str-1 immed rn rd p q h = with_number rd rn _ (immed * 4) h q (omega arith)
in_range_9 ldr-1 immed rn rd p q h = with_number rd rn _ (immed * 4) h q (omega arith)
in_range_9 strb-1 immed rn rd p q h = with_number rd rn _ immed h q (omega arith)
in_range_9 ldrb-1 immed rn rd p q h = with_number rd rn _ immed h q (omega arith)

in_range_10 : (op : Opcode10) (immed rn rd : ℕ) → immed < 32 → rn < 8 → rd < 8
    → InRange (decoded10 op immed rn rd)
in_range_10 strh-1 immed rn rd p q h = with_number rd rn _ (immed * 2) h q (omega arith)
in_range_10 ldrh-1 immed rn rd p q h = with_number rd rn _ (immed * 2) h q (omega arith)

in_range_11 : (op : Opcode11) (rd immed : ℕ) → rd < 8 → immed < 256
    → InRange (decoded11 op rd immed)
in_range_11 str-3 rd immed p h = (omega arith, lit≤ tt, omega arith)
in_range_11 ldr-4 rd immed p h = (omega arith, lit≤ tt, omega arith)

in_range_12 : (a : ℕ) (op : Opcode12) (rd immed : ℕ) → rd < 8 → immed < 256
    → InRange (decoded12 a op rd immed)
in_range_12 a add-5 rd immed p h =
    (omega arith, lit≤ tt, mod-lt (immed * 4 + (two32 - a / 2 % 2 * 2)) (lit< tt))
in_range_12 a add-6 rd immed p h = (omega arith, lit≤ tt, omega arith)

in_range_13 : (op : Opcode13) (immed : ℕ) → immed < 128 → InRange (decoded13 op immed)
in_range_13 add-7 immed h = (lit≤ tt, lit≤ tt, omega arith)
in_range_13 sub-4 immed h = (lit≤ tt, lit≤ tt, omega arith)

in_range_14 : (op : Opcode14) (r : Bool) (list : ℕ) → list < 256 → InRange (decoded14 op r list)
in_range_14 push false list h = (lit≤ tt, omega arith)
in_range_14 push true list h = (lit≤ tt, omega arith)
in_range_14 pop false list h = (lit≤ tt, omega arith)
in_range_14 pop true list h = (lit≤ tt, omega arith)

in_range_15 : (op : Opcode15) (rn list : ℕ) → rn < 8 → list < 256 → InRange (decoded15 op rn list)
in_range_15 stmia rn list p h = (omega arith, omega arith)
in_range_15 ldmia rn list p h = (omega arith, omega arith)

-- the target of a branch
in_range_target : (a x : ℕ) → a % 2 ≡ 0
    → (ahead a (x * 2 % two32) < 2 ^ 32) × (ahead a (x * 2 % two32) % 2 ≡ 0)
in_range_target a x e = (mod-lt (PC a + x * 2 % two32) (lit< tt), even a x e)
  where
    even : (a x : ℕ) → a % 2 ≡ 0 → ((a + 4) % 4294967296 + x * 2 % 4294967296) % 4294967296 % 2 ≡ 0
    even a x e = omega arith

-- the record that an instruction decodes to has its fields in their ranges
pub thumb_in_range : (a : ℕ) (t : Thumb) → Fits t → a % 2 ≡ 0 → InRange (decoded a t).op
thumb_in_range a (format_1 op immed rm rd) h e =
    (omega (arith, h.2), lit≤ tt, (omega (arith, h.1), h.0))
thumb_in_range a (format_2 op rm rn rd) h e = in_range_2 op rm rn rd h.0 h.1 h.2
thumb_in_range a (format_3 op rd immed) h e = in_range_3 op rd immed h.0 h.1
thumb_in_range a (format_4 op rm rd) h e = in_range_4 op rm rd h.0 h.1
thumb_in_range a (format_5 op rm rd) h e = in_range_5 op rm rd h.0 h.1
thumb_in_range a (format_6 rd immed) h e = (omega (arith, h.0), lit≤ tt, omega (arith, h.1))
thumb_in_range a (format_7 op rm rn rd) h e = in_range_7 op rm rn rd h.0 h.1 h.2
thumb_in_range a (format_8 op rm rn rd) h e = in_range_8 op rm rn rd h.0 h.1 h.2
thumb_in_range a (format_9 op immed rn rd) h e = in_range_9 op immed rn rd h.0 h.1 h.2
thumb_in_range a (format_10 op immed rn rd) h e = in_range_10 op immed rn rd h.0 h.1 h.2
thumb_in_range a (format_11 op rd immed) h e = in_range_11 op rd immed h.0 h.1
thumb_in_range a (format_12 op rd immed) h e = in_range_12 a op rd immed h.0 h.1
thumb_in_range a (format_13 op immed) h e = in_range_13 op immed h
thumb_in_range a (format_14 op r list) h e = in_range_14 op r list h
thumb_in_range a (format_15 op rn list) h e = in_range_15 op rn list h.0 h.1
thumb_in_range a (format_16 c immed) h e = in_range_target a (SignExtend8 immed) e
thumb_in_range a (format_17 immed) h e = tt
thumb_in_range a (format_18 immed) h e = in_range_target a (SignExtend11 immed) e
thumb_in_range a (format_19_high offset) h e =
    mod-lt (PC a + SignExtend11 offset * 2 ^ 12 % two32) (lit< tt)
thumb_in_range a (format_19_low offset) h e = omega (arith, h)

-- ADD (5) where PC has bit 1: its value is no multiple of 4
pub thumb_folded : (a rd immed : ℕ) → Fits (format_12 add-5 rd immed) → (a + 4) % 4 ≡ 2
    → (value : ℕ)
    × ((decoded a (format_12 add-5 rd immed)).op ≡ Alu Add false rd 15 (Operand2.Imm value 0))
    × (value % 4 ≡ 2)
thumb_folded a rd immed h e = (folded a immed, refl, folded_odd a immed h.1 (odd a e))
  where
    odd : (a : ℕ) → (a + 4) % 4 ≡ 2 → a / 2 % 2 ≡ 1
    odd a e = omega arith

-- an operation of Thumb under a condition is an instruction, and not one that the manual leaves
-- unpredictable
abbrev Said : Cond → Op → Type 0
Said c op = (no_instruction_of true c op ≡ false) × (unpredictable op ≡ false) × (is_nv c ≡ false)

said_2 : (op : Opcode2) (rm rn rd : ℕ) → Said Al (decoded2 op rm rn rd)
said_2 add-1 rm rn rd = (refl, refl, refl)
said_2 add-3 rm rn rd = (refl, refl, refl)
said_2 sub-1 rm rn rd = (refl, refl, refl)
said_2 sub-3 rm rn rd = (refl, refl, refl)

said_3 : (op : Opcode3) (rd immed : ℕ) → Said Al (decoded3 op rd immed)
said_3 mov-1 rd immed = (refl, refl, refl)
said_3 cmp-1 rd immed = (refl, refl, refl)
said_3 add-2 rd immed = (refl, refl, refl)
said_3 sub-2 rd immed = (refl, refl, refl)

said_4 : (op : Opcode4) (rm rd : ℕ) → rm < 8 → rd < 8 → Said Al (decoded4 op rm rd)
said_4 and rm rd p h = (refl, refl, refl)
said_4 eor rm rd p h = (refl, refl, refl)
said_4 lsl-2 rm rd p h = (refl, refl, refl)
said_4 lsr-2 rm rd p h = (refl, refl, refl)
said_4 asr-2 rm rd p h = (refl, refl, refl)
said_4 adc rm rd p h = (refl, refl, refl)
said_4 sbc rm rd p h = (refl, refl, refl)
said_4 ror rm rd p h = (refl, refl, refl)
said_4 tst rm rd p h = (refl, refl, refl)
said_4 neg rm rd p h = (refl, refl, refl)
said_4 cmp-2 rm rd p h = (refl, refl, refl)
said_4 cmn rm rd p h = (refl, refl, refl)
said_4 orr rm rd p h = (refl, refl, refl)
said_4 mul rm rd p h = (refl, rw (low rd h, low rm p), refl)
said_4 bic rm rd p h = (refl, refl, refl)
said_4 mvn rm rd p h = (refl, refl, refl)

said_5 : (op : Opcode5) (rm rd : ℕ) → Said Al (decoded5 op rm rd)
said_5 add-4 rm rd = (refl, refl, refl)
said_5 cmp-3 rm rd = (refl, refl, refl)
said_5 mov-3 rm rd = (refl, refl, refl)
said_5 bx rm rd = (refl, refl, refl)

said_7 : (op : Opcode7) (rm rn rd : ℕ) → Said Al (decoded7 op rm rn rd)
said_7 str-2 rm rn rd = (refl, refl, refl)
said_7 strb-2 rm rn rd = (refl, refl, refl)
said_7 ldr-2 rm rn rd = (refl, refl, refl)
said_7 ldrb-2 rm rn rd = (refl, refl, refl)

said_8 : (op : Opcode8) (rm rn rd : ℕ) → Said Al (decoded8 op rm rn rd)
said_8 strh-2 rm rn rd = (refl, refl, refl)
said_8 ldrsb rm rn rd = (refl, refl, refl)
said_8 ldrh-2 rm rn rd = (refl, refl, refl)
said_8 ldrsh rm rn rd = (refl, refl, refl)

said_9 : (op : Opcode9) (immed rn rd : ℕ) → Said Al (decoded9 op immed rn rd)
said_9 str-1 immed rn rd = (refl, refl, refl)
said_9 ldr-1 immed rn rd = (refl, refl, refl)
said_9 strb-1 immed rn rd = (refl, refl, refl)
said_9 ldrb-1 immed rn rd = (refl, refl, refl)

said_10 : (op : Opcode10) (immed rn rd : ℕ) → Said Al (decoded10 op immed rn rd)
said_10 strh-1 immed rn rd = (refl, refl, refl)
said_10 ldrh-1 immed rn rd = (refl, refl, refl)

said_11 : (op : Opcode11) (rd immed : ℕ) → Said Al (decoded11 op rd immed)
said_11 str-3 rd immed = (refl, refl, refl)
said_11 ldr-4 rd immed = (refl, refl, refl)

said_12 : (a : ℕ) (op : Opcode12) (rd immed : ℕ) → Said Al (decoded12 a op rd immed)
said_12 a add-5 rd immed = (refl, refl, refl)
said_12 a add-6 rd immed = (refl, refl, refl)

said_13 : (op : Opcode13) (immed : ℕ) → Said Al (decoded13 op immed)
said_13 add-7 immed = (refl, refl, refl)
said_13 sub-4 immed = (refl, refl, refl)

said_14 : (op : Opcode14) (r : Bool) (list : ℕ) → Said Al (decoded14 op r list)
said_14 push r list = (refl, refl, refl)
said_14 pop r list = (refl, refl, refl)

said_15 : (op : Opcode15) (rn list : ℕ) → Said Al (decoded15 op rn list)
said_15 stmia rn list = (refl, refl, refl)
said_15 ldmia rn list = (refl, refl, refl)

-- the record that an instruction decodes to is an instruction of Thumb, not unpredictable, and its
-- condition is not NV
pub thumb_said : (a : ℕ) (t : Thumb) → Fits t
    → (no_instruction (decoded a t) ≡ false) × (unpredictable (decoded a t).op ≡ false)
    × (is_nv (decoded a t).cond ≡ false)
thumb_said a (format_1 op immed rm rd) h = (refl, refl, refl)
thumb_said a (format_2 op rm rn rd) h = said_2 op rm rn rd
thumb_said a (format_3 op rd immed) h = said_3 op rd immed
thumb_said a (format_4 op rm rd) h = said_4 op rm rd h.0 h.1
thumb_said a (format_5 op rm rd) h = said_5 op rm rd
thumb_said a (format_6 rd immed) h = (refl, refl, refl)
thumb_said a (format_7 op rm rn rd) h = said_7 op rm rn rd
thumb_said a (format_8 op rm rn rd) h = said_8 op rm rn rd
thumb_said a (format_9 op immed rn rd) h = said_9 op immed rn rd
thumb_said a (format_10 op immed rn rd) h = said_10 op immed rn rd
thumb_said a (format_11 op rd immed) h = said_11 op rd immed
thumb_said a (format_12 op rd immed) h = said_12 a op rd immed
thumb_said a (format_13 op immed) h = said_13 op immed
thumb_said a (format_14 op r list) h = said_14 op r list
thumb_said a (format_15 op rn list) h = said_15 op rn list
thumb_said a (format_16 c immed) h = (refl, refl, h.2)
thumb_said a (format_17 immed) h = (refl, refl, refl)
thumb_said a (format_18 immed) h = (refl, refl, refl)
thumb_said a (format_19_high offset) h = (refl, refl, refl)
thumb_said a (format_19_low offset) h = (refl, refl, refl)
