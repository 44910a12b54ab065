-- What holds of each instruction and each block of an accepted file: the fields are in their
-- ranges, and the addresses follow each other. Assumes nothing.
use Rattle.std.proofs.Common.{◌≡◌, ℕ, zero, suc, ◌+◌, ◌*◌, ◌%◌, ◌^◌, ◌<◌, ◌≤◌, Bool, true, false, cond, eqb, leb, ◌⊎◌, List, [], ◌∷◌, length, get_or, sym, refl, ap, ◌∙◌, subst, ap₂, inl, inr, add-zero, zero-add, arith, eqb-true, leb-true}
use mathlib.Core.Bool.{and-eq-true_iff}
use mathlib.Core.List.Memᴰ
use mathlib.Core.List.{Memᴰ}
use mathlib.Core.Option.{some, some-injective}
use lib.ListN.{get_elem?}
use Rattle.armv4t.specs.declared.Op.{Op}
use Rattle.armv4t.specs.Instr.{size_of}
use Rattle.file_records.specs.Bytes.{byte_at, half_at, word_at}
use Rattle.file_records.specs.Trailer.{block_count, block_start, instr_start}
use Rattle.file_records.specs.BlockRecord.{count_at, count_sum}
use Rattle.file_instrs.specs.declared.decode.TimedInstr.{TimedInstr}
use Rattle.file_instrs.specs.InstrRecord.{largest, within, even_fields, instr_right}
use Rattle.file_instrs.specs.Decode.{flag_at, alu_at, mul_at, mul_long_at, mem_at, block_mem_at, free_op}
use Rattle.file_instrs.specs.Decode.{ops_at, op_at, timed_at}
use Rattle.file_blocks.specs.Parse.{Block, Parsed, instrs_from, block_at, blocks_from, parse}
use Rattle.file_blocks.specs.Read.{record_at}
use Rattle.file_blocks.proofs.Accepted.{blocks_of_lem, instr_right_lem, has_instr, ends_inside}
use Rattle.file_blocks.proofs.Accepted.{few_in_block, address_aligned, instrs_inside}
use Rattle.file_blocks.proofs.Accepted.{record_reads}
use Rattle.armv4t.specs.InRange.{InRange}

-- instructions of a block's set, one after the other from an address on
abbrev pub Consecutive : ℕ → Bool → List TimedInstr → Type 0
Consecutive a t [] = Unit {0}
Consecutive a t (x ∷ xs) =
    (x.instr.addr ≡ a) × (x.instr.thumb ≡ t) × Consecutive (a + size_of t) t xs

-- a byte that was compared with a row is at most the row's value for it
at_most : (f row : List ℕ) (at : ℕ) → within f at row ≡ true → (k most : ℕ)
    → get_elem? row k ≡ some most → byte_at f (at + k) ≤ most
unfolding within
at_most f [] at w k most g = absurd (let z : ◌≡◌ {A = ℕ} 0 1 = cc in omega arith)
at_most f (x ∷ row) at w zero most g =
    let first = ((and-eq-true_iff (leb (byte_at f at) x) (within f (at + 1) row)).0 w).0 in
    rw (add-zero, ← some-injective x most g) (leb-true _ _ first)
at_most f (x ∷ row) at w (suc k) most g =
    let shift : at + 1 + k ≡ at + suc k = omega arith in
    let rest = ((and-eq-true_iff (leb (byte_at f at) x) (within f (at + 1) row)).0 w).1 in
    subst (λ (n : ℕ). byte_at f n ≤ most) shift (at_most f row (at + 1) rest k most g)

-- numbers of bytes
half_lt : (x y : ℕ) → x ≤ 255 → y ≤ 255 → x + 256 * y < 65536
half_lt x y a b = omega arith

word_lt : (x y z w : ℕ) → x ≤ 255 → y ≤ 255 → z ≤ 255 → w ≤ 255
    → x + 256 * y + 65536 * z + 16777216 * w < 4294967296
word_lt x y z w a b c d = omega arith

word_even : (x y z w : ℕ) → x % 2 ≡ 0 → (x + 256 * y + 65536 * z + 16777216 * w) % 2 ≡ 0
word_even x y z w e = omega arith

under : (n : ℕ) → n ≤ 31 → n < 32
under n h = omega arith

-- the operation of a kind that leaves its bytes free
free_fits : (kind : ℕ) → InRange (free_op kind)
unfolding free_op
free_fits kind = go (eqb kind 3) (eqb kind 10) (eqb kind 11) (eqb kind 12) (eqb kind 13)
  where
    go : (a b c d e : Bool)
        → InRange
        (cond a (Op.Swap false 0 0 0)
        (cond b (Op.Mrs false 0)
        (cond c (Op.MsrReg false 0 0)
        (cond d (Op.MsrImm false 0 0) (cond e (Op.Swi 0) (Op.Undefined 0))))))
    go true b c d e = tt
    go false true c d e = tt
    go false false true d e = tt
    go false false false true e = tt
    go false false false false true = tt
    go false false false false false = tt

-- each of some operations, which are numbered from k on, is in range if the kind is its number
abbrev Each : ℕ → ℕ → List Op → Type 0
Each kind k [] = Unit {0}
Each kind k (o ∷ os) = (kind ≡ k → InRange o) × Each kind (suc k) os

-- so the one that the kind selects is
selected : (kind k n : ℕ) (os : List Op) (other : Op) → kind ≡ k + n → Each kind k os
    → InRange other → InRange (get_or os n other)
selected kind k n [] other e each h = h
selected kind k zero (o ∷ os) other e each h = each.0 (e ∙ add-zero k)
selected kind k (suc n) (o ∷ os) other e each h =
    let shift : k + suc n ≡ suc k + n = omega arith in
    selected kind (suc k) n os other (e ∙ shift) each.1 h

-- a record that keeps its rules
module _ (f : List ℕ) (at : ℕ) (right : instr_right f at ≡ true) where
  kept : (within f at (largest (byte_at f at) (byte_at f (at + 8))) ≡ true) × (even_fields f at ≡ true)
  unfolding instr_right
  kept =
      (and-eq-true_iff (within f at (largest (byte_at f at) (byte_at f (at + 8)))) (even_fields f at)).0
      right

  module _ (kind form : ℕ) (e : byte_at f at ≡ kind) (g : byte_at f (at + 8) ≡ form) where
    row : within f at (largest kind form) ≡ true
    row = ap₂ (λ (k m : ℕ). within f at (largest k m)) (sym e) (sym g) ∙ kept.0

    -- byte k, by the row of the record's kind and form
    byte : (k most : ℕ) → get_elem? (largest kind form) k ≡ some most → byte_at f (at + k) ≤ most
    byte k most h = at_most f (largest kind form) at row k most h

    -- byte 12 + k, where a number of several bytes has it
    late : (k most : ℕ) → get_elem? (largest kind form) (12 + k) ≡ some most
        → byte_at f (at + 12 + k) ≤ most
    late k most h =
        let shift : at + (12 + k) ≡ at + 12 + k = omega arith in
        subst (λ (n : ℕ). byte_at f n ≤ most) shift (byte (12 + k) most h)

    half : get_elem? (largest kind form) 12 ≡ some 255 → get_elem? (largest kind form) 13 ≡ some 255
        → half_at f (at + 12) < 2 ^ 16
    half a b = half_lt (byte_at f (at + 12)) (byte_at f (at + 12 + 1)) (byte 12 255 a) (late 1 255 b)

    word : get_elem? (largest kind form) 12 ≡ some 255 → get_elem? (largest kind form) 13 ≡ some 255
        → get_elem? (largest kind form) 14 ≡ some 255
        → get_elem? (largest kind form) 15 ≡ some 255 → word_at f (at + 12) < 2 ^ 32
    word a b c d =
        word_lt (byte_at f (at + 12)) (byte_at f (at + 12 + 1)) (byte_at f (at + 12 + 2))
        (byte_at f (at + 12 + 3)) (byte 12 255 a) (late 1 255 b) (late 2 255 c)
        (late 3 255 d)

  -- each form of a second operand and of an offset; there is none from 3 on
  alu : byte_at f at ≡ 0 → (form : ℕ) → byte_at f (at + 8) ≡ form → InRange (alu_at f at)
  unfolding alu_at largest
  alu e zero g =
      (byte 0 0 e g 6 15 refl, byte 0 0 e g 7 15 refl, rw g (word 0 0 e g refl refl refl refl))
  alu e (suc zero) g = (
    byte 0 1 e g 6 15 refl,
    byte 0 1 e g 7 15 refl,
    rw g
        (byte 0 1 e g 9 15 refl, under _ (byte 0 1 e g 11 31 refl)),
  )
  alu e (suc (suc zero)) g = (
    byte 0 2 e g 6 15 refl,
    byte 0 2 e g 7 15 refl,
    rw g
        (byte 0 2 e g 9 15 refl, byte 0 2 e g 11 15 refl),
  )
  alu e (suc (suc (suc n))) g =
      absurd (let none : byte_at f (at + 8) ≤ 0 = byte 0 (suc (suc (suc n))) e g 8 0 refl in
      omega arith)

  mem : byte_at f at ≡ 8 → (form : ℕ) → byte_at f (at + 8) ≡ form → InRange (mem_at f at)
  unfolding mem_at largest
  mem e zero g = (byte 8 0 e g 6 15 refl, byte 8 0 e g 7 15 refl, rw g (half 8 0 e g refl refl))
  mem e (suc zero) g = (
    byte 8 1 e g 6 15 refl,
    byte 8 1 e g 7 15 refl,
    rw g
        (byte 8 1 e g 9 15 refl, under _ (byte 8 1 e g 11 31 refl)),
  )
  mem e (suc (suc zero)) g = (
    byte 8 2 e g 6 15 refl,
    byte 8 2 e g 7 15 refl,
    rw g
        (byte 8 2 e g 9 15 refl, byte 8 2 e g 11 15 refl),
  )
  mem e (suc (suc (suc n))) g =
      absurd (let none : byte_at f (at + 8) ≤ 0 = byte 8 (suc (suc (suc n))) e g 8 0 refl in
      omega arith)

  mul : byte_at f at ≡ 1 → InRange (mul_at f at)
  unfolding mul_at largest
  mul e = (
    byte 1 _ e refl 6 15 refl,
    byte 1 _ e refl 7 15 refl,
    byte 1 _ e refl 8 15 refl,
    byte 1 _ e
        refl 9 15 refl,
  )

  mul_long : byte_at f at ≡ 2 → InRange (mul_long_at f at)
  unfolding mul_long_at largest
  mul_long e = (
    byte 2 _ e refl 7 15 refl,
    byte 2 _ e refl 8 15 refl,
    byte 2 _ e refl 9 15 refl,
    byte 2 _ e
        refl 10 15 refl,
  )

  bx : byte_at f at ≡ 4 → InRange (Op.Bx (byte_at f (at + 4)))
  unfolding largest
  bx e = byte 4 _ e refl 4 15 refl

  branch : byte_at f at ≡ 5 → InRange (Op.Branch (flag_at f (at + 4)) (word_at f (at + 12)))
  unfolding largest even_fields
  branch e =
      let even : eqb (byte_at f (at + 12) % 2) 0 ≡ true = (rw e at kept.1) in (
        word 5 _ e refl refl refl refl refl,
        word_even _ (byte_at f (at + 12 + 1))
            (byte_at f (at + 12 + 2)) (byte_at f (at + 12 + 3)) (eqb-true _ _ even),
      )

  bl_high_lem : byte_at f at ≡ 6 → InRange (Op.ThumbBlHigh (word_at f (at + 12)))
  unfolding largest
  bl_high_lem e = word 6 _ e refl refl refl refl refl

  bl_low_lem : byte_at f at ≡ 7 → InRange (Op.ThumbBlLow (half_at f (at + 12)))
  unfolding largest
  bl_low_lem e = half 7 _ e refl refl refl

  block_mem : byte_at f at ≡ 9 → InRange (block_mem_at f at)
  unfolding block_mem_at largest
  block_mem e = (byte 9 _ e refl 6 15 refl, half 9 _ e refl refl refl)

  -- each kind has its operation in range, so the record has
  record_fits : InRange (op_at f at)
  unfolding op_at
  record_fits =
      selected (byte_at f at) 0 (byte_at f at) (ops_at f at) (free_op (byte_at f at)) (sym (zero-add _)) (
        λ e. alu e (byte_at f (at + 8)) refl,
        (
          mul,
          (
            mul_long,
            (
              λ e. free_fits 3,
              (
                bx,
                (
                  branch,
                  (bl_high_lem, (bl_low_lem, (λ e. mem e (byte_at f (at + 8)) refl, (block_mem, tt)))),
                ),
              ),
            ),
          ),
        ),
      )
      (free_fits (byte_at f at))

-- an instruction of some consecutive ones is that of a record
record FromRecord (f : List ℕ) (k n : ℕ) (x : TimedInstr) : Type 0 where
  at : ℕ
  inside : at < k + n
  same : x.instr.op ≡ op_at f (instr_start f at)

from_record : (f : List ℕ) (n k addr : ℕ) (thumb : Bool) (x : TimedInstr)
    → Memᴰ x (instrs_from f n k addr thumb) → FromRecord f k n x
unfolding timed_at
from_record f zero k addr thumb x m = absurd (Memᴰ.not-nil m)
from_record f (suc n) k addr thumb x m =
    go (from_record f n (suc k) (addr + size_of thumb) thumb x) (Memᴰ.cases_cons m)
  where
    go : (Memᴰ x (instrs_from f n (suc k) (addr + size_of thumb) thumb)
        → FromRecord f (suc k) n x)
        → (x ≡ timed_at f (instr_start f k) addr thumb)
        ⊎ Memᴰ x (instrs_from f n (suc k) (addr + size_of thumb) thumb)
        → FromRecord f k (suc n) x
    go rest (inl e) =
        record { at = k; inside = omega arith; same = ap (λ (y : TimedInstr). y.instr.op) e }
    go rest (inr m') =
        let r = rest m' in record { at = r.at; inside = omega arith; same = r.same }

-- n instructions from a record on follow each other
follow : (f : List ℕ) (n k addr : ℕ) (thumb : Bool)
    → Consecutive addr thumb (instrs_from f n k addr thumb)
unfolding timed_at
follow f zero k addr thumb = tt
follow f (suc n) k addr thumb = (refl, refl, follow f n (suc k) (addr + size_of thumb) thumb)

-- a block of some consecutive ones is that of a record
record FromBlock (f : List ℕ) (n : ℕ) (b : Block) : Type 0 where
  at : ℕ
  inside : at < n
  same : b ≡ block_at f (block_start f at) (count_sum f at)

from_block : (f : List ℕ) (n i k : ℕ) (b : Block) → k ≡ count_sum f i
    → Memᴰ b (blocks_from f n i k) → FromBlock f (i + n) b
unfolding blocks_from count_sum
from_block f zero i k b e m = absurd (Memᴰ.not-nil m)
from_block f (suc n) i k b e m =
    go (from_block f n (suc i) (k + count_at f (block_start f i)) b
    (ap (λ (s : ℕ). s + count_at f (block_start f i)) e)) (Memᴰ.cases_cons m)
  where
    go : (Memᴰ b (blocks_from f n (suc i) (k + count_at f (block_start f i)))
        → FromBlock f (suc i + n) b)
        → (b ≡ block_at f (block_start f i) k)
        ⊎ Memᴰ b (blocks_from f n (suc i) (k + count_at f (block_start f i)))
        → FromBlock f (i + suc n) b
    go rest (inl same) =
        record { at = i; inside = omega arith; same = same ∙ ap (block_at f (block_start f i)) e }
    go rest (inr m') =
        let r = rest m' in record { at = r.at; inside = omega arith; same = r.same }

-- a block of an accepted file
module _ (f : List ℕ) (bs : List Block) (accepted : parse f ≡ Parsed.accepted bs) (b : Block)
    (m : Memᴰ b bs) where
  place : FromBlock f (block_count f) b
  unfolding count_sum
  place =
      subst (λ (n : ℕ). FromBlock f n b) (zero-add (block_count f))
      (from_block f (block_count f) 0 0 b refl
      (subst (λ (l : List Block). Memᴰ b l) (blocks_of_lem f bs accepted) m))

  -- each instruction has its fields in range
  pub accepted_ranges : (x : TimedInstr) → Memᴰ x b.instrs → InRange x.instr.op
  unfolding block_at
  accepted_ranges x mx =
      let at = block_start f place.at in
      let r =
      from_record f (count_at f at) (count_sum f place.at) _ _ x
      (subst (λ (c : Block). Memᴰ x c.instrs) place.same mx) in
      rw r.same
      (record_fits f (instr_start f r.at)
      (instr_right_lem f bs accepted r.at
      (omega (arith, instrs_inside f bs accepted place.at place.inside))))

  -- its instructions are of its set, and stand after each other from its address on
  pub accepted_consecutive : Consecutive b.addr b.thumb b.instrs
  unfolding block_at
  accepted_consecutive =
      rw place.same
      (follow f (count_at f (block_start f place.at)) (count_sum f place.at) _ _)

  -- as many as its record says
  count : count_at f (block_start f place.at)
      ≡ length (block_at f (block_start f place.at) (count_sum f place.at)).instrs
  unfolding record_at
  count = (record_reads f bs accepted place.at place.inside).count

  -- it has an instruction
  pub accepted_some : 1 ≤ length b.instrs
  accepted_some = rw (place.same, ← count) (has_instr f bs accepted place.at place.inside)

  -- and at most 65,535
  pub accepted_few : length b.instrs ≤ 65535
  accepted_few = rw (place.same, ← count) (few_in_block f bs accepted place.at place.inside)

  -- its end is not past 2^32
  pub accepted_end : b.addr + length b.instrs * size_of b.thumb ≤ 2 ^ 32
  unfolding block_at
  accepted_end = rw (place.same, ← count) (ends_inside f bs accepted place.at place.inside)

  -- its address is even for Thumb, a multiple of 4 for ARM
  pub accepted_aligned : b.addr % size_of b.thumb ≡ 0
  unfolding block_at
  accepted_aligned = rw place.same (address_aligned f bs accepted place.at place.inside)
