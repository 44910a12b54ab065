-- The exits of a block by its last two instructions, and exits by a block's number.
-- Assumes nothing.
use Rattle.std.proofs.Common.{◌≡◌, ℕ, zero, suc, ◌+◌, ◌-◌, ◌≤◌, Bool, List, map, sym, refl, ap, ◌∙◌, ap₂, arith, Option, Some, None}
use mathlib.Core.Option.{none, some}
use lib.ListN.{get_elem?}
use Rattle.base_lists.proofs.Places.{map_found, map_past}
use Rattle.armv4t.specs.Instr.{size_of}
use Rattle.armv4t.specs.declared.Instr.{Instr}
use Rattle.armv4t.specs.Fused.{Fused, fuse}
use Rattle.file_instrs.specs.declared.decode.TimedInstr.{TimedInstr}
use Rattle.file_blocks.specs.declared.read.BlockRecord.{BlockRecord}
use Rattle.file_records.specs.Trailer.{block_count, block_start}
use Rattle.file_blocks.specs.Parse.{instrs_from, block_at, blocks_of, Accepted}
use Rattle.file_blocks.specs.Read.{record_at, read_instr, IsBlock}
use Rattle.file_blocks.proofs.ReadInstrs.{instr_at, later, at_first, instr_there, read_as}
use Rattle.file_blocks.proofs.Accepted.{length_of_lem}
use Rattle.plan_exits.specs.Exits.{last_exits, closing_exits, instr_exits, exits}
use Rattle.file_blocks.proofs.IsBlock.{nth_block, block_inside, block_record, some_instr}

-- the exits by two instructions
abbrev pair_exits : Bool → TimedInstr → TimedInstr → List ℕ
pair_exits thumb x y = closing_exits (fuse x.instr y.instr) (last_exits thumb y.instr)

module _ (f : List ℕ) (thumb : Bool) where
  by_one : (k addr : ℕ)
      → instr_exits thumb (instrs_from f 1 k addr thumb)
      ≡ last_exits thumb (instr_at f k addr thumb 0).instr
  unfolding instr_exits
  by_one k addr = ap (λ (x : TimedInstr). last_exits thumb x.instr) (at_first f thumb k addr)

  by_two : (m k addr : ℕ)
      → instr_exits thumb (instrs_from f (suc (suc m)) k addr thumb)
      ≡ pair_exits thumb (instr_at f k addr thumb m) (instr_at f k addr thumb (suc m))
  unfolding instr_exits
  by_two zero k addr =
      ap₂ (pair_exits thumb) (at_first f thumb k addr)
      (at_first f thumb (suc k) (addr + size_of thumb) ∙ later f thumb k addr 0)
  by_two (suc m) k addr = by_two m (suc k) (addr + size_of thumb)
      ∙ ap₂ (pair_exits thumb) (later f thumb k addr m) (later f thumb k addr (suc m))

  ends_alone : (n k addr : ℕ) → n ≡ 1
      → last_exits thumb (instr_at f k addr thumb (n - 1)).instr
      ≡ instr_exits thumb (instrs_from f n k addr thumb)
  ends_alone n k addr one = rw one (sym (by_one k addr))

  ends_paired : (n k addr : ℕ) → 2 ≤ n
      → pair_exits thumb (instr_at f k addr thumb (n - 2)) (instr_at f k addr thumb (n - 1))
      ≡ instr_exits thumb (instrs_from f n k addr thumb)
  ends_paired n k addr two =
      let last : n - 1 ≡ suc (n - 2) = omega arith in
      let all : suc (suc (n - 2)) ≡ n = omega arith in
      rw last (sym (by_two (n - 2) k addr)
      ∙ ap (λ (m : ℕ). instr_exits thumb (instrs_from f m k addr thumb)) all)

-- block i of an accepted file
module _ {f : List ℕ} {i : ℕ} {b : BlockRecord} {first : ℕ} (is : IsBlock f i b first) where
  exits_are : exits (block_at f (block_start f i) first)
      ≡ instr_exits b.thumb (instrs_from f b.count first b.addr b.thumb)
  unfolding exits block_at record_at
  exits_are =
      ap (λ (r : BlockRecord). instr_exits r.thumb
      (instrs_from f r.count first r.addr r.thumb)) (sym (block_record is))

  -- a block of one instruction
  pub exits_alone : (r : Option TimedInstr) (x : TimedInstr) → b.count ≡ 1
      → r ≡ read_instr f b first (b.count - 1) → r ≡ Some x
      → last_exits b.thumb x.instr ≡ exits (block_at f (block_start f i) first)
  exits_alone r x one e g =
      ap (λ (z : TimedInstr). last_exits b.thumb z.instr)
      (read_as is (b.count - 1) r x (omega arith) e g)
      ∙ ends_alone f b.thumb b.count first b.addr one
      ∙ sym exits_are

  -- a block of more
  pub exits_paired : (r q : Option TimedInstr) (x y : TimedInstr) → (b.count ≡ 1 → ⊥)
      → r ≡ read_instr f b first (b.count - 2) → r ≡ Some x
      → q ≡ read_instr f b first (b.count - 1) → q ≡ Some y
      → closing_exits (fuse x.instr y.instr) (last_exits b.thumb y.instr)
      ≡ exits (block_at f (block_start f i) first)
  exits_paired r q x y more e g e' g' =
      let two : 2 ≤ b.count = omega (arith, some_instr is) in
      ap₂ (pair_exits b.thumb) (read_as is (b.count - 2) r x (omega arith) e g)
      (read_as is (b.count - 1) q y (omega arith) e' g')
      ∙ ends_paired f b.thumb b.count first b.addr two
      ∙ sym exits_are

  -- a block of more whose last instruction makes no pair
  pub exits_unpaired : (q : Option TimedInstr) (y : TimedInstr) → (b.count ≡ 1 → ⊥)
      → ((before : Instr) → fuse before y.instr ≡ None)
      → q ≡ read_instr f b first (b.count - 1) → q ≡ Some y
      → last_exits b.thumb y.instr ≡ exits (block_at f (block_start f i) first)
  exits_unpaired q y more alone e g =
      let x = instr_at f first b.addr b.thumb (b.count - 2) in
      ap (λ (z : Fused). closing_exits z (last_exits b.thumb y.instr)) (sym (alone x.instr))
      ∙ exits_paired (read_instr f b first (b.count - 2)) q x y more refl
      (instr_there is (b.count - 2) (omega (arith, some_instr is))) e g

-- past the last block there is nothing
pub no_exits : (f : List ℕ) → Accepted f → (i : ℕ) → block_count f ≤ i
    → none ≡ get_elem? (map exits (blocks_of f)) i
no_exits f ok i h = map_past exits (blocks_of f) i (omega (arith, length_of_lem f (blocks_of f) ok))

-- the exits of a block by its number
pub exits_here : {f : List ℕ} {i : ℕ} {b : BlockRecord} {first : ℕ} → IsBlock f i b first
    → some (exits (block_at f (block_start f i) first)) ≡ get_elem? (map exits (blocks_of f)) i
exits_here {f} {i} is =
    rw (is.starts, ← nth_block f i (block_at f 0 0) (block_inside is))
    (map_found exits (blocks_of f) i (block_at f 0 0)
    (omega (arith, block_inside is, length_of_lem f (blocks_of f) is.accepted)))
