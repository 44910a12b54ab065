-- To be believed: A5.4 Addressing mode 4, and A4.1: LDM (1), STM (1). The registers of the list go
-- from the lowest up, at rising addresses. An empty list is open (A4.1; A7.1), and never native.
use Rattle.std.specs.Prelude.{ℕ, zero, suc, ◌+◌, ◌-◌, ◌*◌, ◌%◌, ◌≡◌, refl, Bool, true, false, not, cond, ◌&&◌, List, [], ◌∷◌, ◌++◌, eqb, length, get_or}
use Rattle.base_words.specs.Word.{bit}
use Rattle.armv4t_manual.specs.Machine.{two32, Machine, R, update, set_reg, set_regs, set_mem}
use Rattle.armv4t_manual.specs.Transfer.{Memory4, set_memory4, moved}

-- the registers below n that register_list names
unfoldable pub listed : ℕ → ℕ → List ℕ
listed rlist zero = []
listed rlist (suc n) = listed rlist n ++ cond (bit rlist n) (n ∷ []) []

-- start_address by U and P, for k registers: A5.4.2 IA, A5.4.3 IB, A5.4.4 DA, A5.4.5 DB
abbrev pub start : Bool → Bool → ℕ → ℕ → ℕ
start true false x k = x
start true true x k = (x + 4) % two32
start false false x k = (x + (two32 - k * 4) + 4) % two32
start false true x k = (x + (two32 - k * 4)) % two32

-- registers loaded from rising addresses. Open over the end of the address space (A2.7.1): here
-- addresses wrap
abbrev pub load_all : List ℕ → ℕ → (ℕ → ℕ) → (ℕ → ℕ) → ℕ → ℕ
load_all [] a f r = r
load_all (i ∷ is) a f r = load_all is ((a + 4) % two32) f (update i (Memory4 f a) r)

-- the address after so many words
abbrev pub address_after : List ℕ → ℕ → ℕ
address_after [] a = a
address_after (i ∷ is) a = address_after is ((a + 4) % two32)

-- LDM (1) without R15: the base is written, and then the registers. A base that is written and
-- listed is open (A4.1 LDM (1)); in Thumb (A7.1 LDMIA) it is the value loaded, as here
abbrev pub load_multiple : Bool → Bool → Bool → ℕ → ℕ → Machine → Machine
load_multiple up pre writeback rn rlist m =
    let k : ℕ = length (listed rlist 16) in
    let m1 : Machine = cond writeback (set_reg rn (moved up (m.r rn) (k * 4)) m) m in
    set_regs (load_all (listed rlist 15) (start up pre (m.r rn) k) m.mem m1.r) m

-- LDM (1) with R15, and POP (A7.1): the registers but R15, and then the base. Where that is listed
-- it is open (A4.1 LDM (1)), and here the value loaded is moved
abbrev pub load_multiple_with_pc : Bool → Bool → Bool → ℕ → ℕ → Machine → Machine
load_multiple_with_pc up pre writeback rn rlist m =
    let k : ℕ = length (listed rlist 16) in
    let r1 : ℕ → ℕ = load_all (listed rlist 15) (start up pre (m.r rn) k) m.mem m.r in
    set_regs (cond writeback (update rn (moved up (r1 rn) (k * 4)) r1) r1) m

-- what it loads for R15: the word after the others
abbrev pub loaded_pc : Bool → Bool → ℕ → ℕ → Machine → ℕ
loaded_pc up pre rn rlist m =
    Memory4 m.mem
    (address_after (listed rlist 15) (start up pre (m.r rn) (length (listed rlist 16))))

-- values stored at rising addresses, over the end likewise
abbrev pub store_all : (ℕ → ℕ) → List ℕ → ℕ → (ℕ → ℕ) → ℕ → ℕ
store_all r [] a f = f
store_all r (i ∷ is) a f = store_all r is ((a + 4) % two32) (set_memory4 a (r i) f)

-- the lowest register of a list; 16 if it is empty
abbrev pub lowest : ℕ → ℕ
lowest rlist = get_or (listed rlist 16) 0 16

-- what STM (1) stores for register i: its value, and for R15, which is implementation defined
-- (A2.4.3), here pc plus 4. A base that is written, listed and not lowest is open (A4.1 STM (1),
-- A7.1 STMIA): here it is stored as it is after the instruction
abbrev pub stored_for : Machine → Bool → ℕ → ℕ → ℕ → ℕ → ℕ → ℕ
stored_for m writeback rn rlist newBase pc i =
    cond (writeback && eqb i rn && not (eqb i (lowest rlist))) newBase (R m ((pc + 4) % two32) i)

-- STM (1)
abbrev pub store_multiple : Bool → Bool → Bool → ℕ → ℕ → ℕ → Machine → Machine
store_multiple up pre writeback rn rlist pc m =
    let k : ℕ = length (listed rlist 16) in
    let newBase : ℕ = moved up (m.r rn) (k * 4) in
    let m1 : Machine =
    set_mem (store_all (stored_for m writeback rn rlist newBase pc) (listed rlist 16)
    (start up pre (m.r rn) k) m.mem) m in
    cond writeback (set_reg rn newBase m1) m1

list_example : listed 0x8005 16 ≡ 0 ∷ 2 ∷ 15 ∷ []
unfolding listed
list_example = refl

-- three registers down from 0x100: DA ends there, DB below it
start_example : start false false 0x100 3 ≡ 0xf8
start_example = refl

start_before : start false true 0x100 3 ≡ 0xf4
start_before = refl
