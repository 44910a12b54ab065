-- The keys of a file whose block records are right, as the records have them.
-- Assumes nothing.
use Prim.Native.Nat.{ℕ, ◌+◌, ◌*◌, ◌≤◌, ◌<◌, ◌^◌}
use mathlib.Core.Path.{◌≡◌, sym, ap, ◌∙◌}
use mathlib.Core.Bool.{Bool, true, false, cond, true≢false}
use mathlib.Core.List.{List}
use native.Mathlib.Omega.{arith}
use native.Mathlib.Decide.{dec_lt}
use lib.ListN.{length, get_or, length-map, get_or-eq_default}
use Rattle.armv4t.specs.Instr.{size_of}
use Rattle.base_lists.proofs.Places.{map_at}
use Rattle.file_records.specs.Trailer.{block_count, block_start}
use Rattle.file_records.specs.BlockRecord.{key_at, count_at, addr_at, thumb_at, length_at, block_right}
use Rattle.file_records.proofs.Sections.{sections}
use Rattle.file_records.proofs.Rules.{no_count, end_past}
use Rattle.file_blocks.specs.Parse.{block_key, block_at, blocks_of, Accepted}
use Rattle.file_blocks.proofs.Accepted.{trailer_right_lem, few_blocks, block_right_lem}
use Rattle.file_blocks.proofs.IsBlock.{nth_block}
use Rattle.file_blocks.proofs.Nowhere.{nowhere}
use Rattle.file_blocks.proofs.Whole.{length_blocks}
use Rattle.file_keys.specs.declared.keys.Records.{Records}
use Rattle.file_keys.specs.Order.{block_keys}
use Rattle.file_keys.specs.Steps.{RightBlocks, HasRecords}

-- there is a key for each block
pub length_keys : (f : List ℕ) → length (block_keys f) ≡ block_count f
length_keys f = length-map (blocks_of f) block_key ∙ length_blocks f (block_count f) 0 0

-- it is that of its record
pub key_at_lem : (f : List ℕ) (i : ℕ) → i < block_count f
    → get_or (block_keys f) i 0 ≡ key_at f (block_start f i)
unfolding block_at
key_at_lem f i h =
    map_at block_key (blocks_of f) i nowhere 0
    (omega (arith, length_blocks f (block_count f) 0 0))
    ∙ ap block_key (nth_block f i nowhere h)

-- past the last block there is none
pub key_past : (f : List ℕ) (i : ℕ) → block_count f ≤ i → get_or (block_keys f) i 0 ≡ 0
key_past f i h = get_or-eq_default (block_keys f) 0 (omega (arith, length_keys f))

-- a key fits 32 bits: a block has an instruction, and it ends inside the address space
module _ (f : List ℕ) (at : ℕ) (right : block_right f at ≡ true) where
  some_instr : 1 ≤ count_at f at
  some_instr =
      let never : count_at f at < 1 → ⊥ = λ h. true≢false (sym right ∙ sym (no_count f at h)) in
      omega arith

  ends : addr_at f at + length_at f at ≤ 2 ^ 32
  ends =
      let never : 2 ^ 32 < addr_at f at + length_at f at → ⊥ =
      λ h. true≢false (sym right ∙ sym (end_past f at h)) in
      omega arith

  small_at : (thumb : Bool) → addr_at f at + count_at f at * size_of thumb ≤ 2 ^ 32
      → addr_at f at + cond thumb 1 0 < 2 ^ 32
  small_at true h = omega (arith, some_instr)
  small_at false h = omega (arith, some_instr)

  pub small_key : key_at f at < 2 ^ 32
  small_key = small_at (thumb_at f at) ends

-- so do all keys of such a file
pub small_keys : (f : List ℕ) → RightBlocks f → (i : ℕ) → get_or (block_keys f) i 0 < 2 ^ 32
small_keys f right i =
    elim (dec_lt i (block_count f)) [
      | yes h ↦ rw (key_at_lem f i h) (small_key f (block_start f i) (right.blocks i h))
      | no g ↦ rw (key_past f i (omega arith)) (omega arith)
    ]

-- an accepted file is such a file
pub right_blocks : (f : List ℕ) → Accepted f → RightBlocks f
right_blocks f ok =
    record {
      trailer = trailer_right_lem f (blocks_of f) ok;
      few = few_blocks f (blocks_of f) ok;
      blocks = block_right_lem f (blocks_of f) ok;
    }

-- records lie inside the file
pub record_inside : {f : List ℕ} {r : Records} → HasRecords f r → (i : ℕ) → i < r.count
    → r.start + 16 * i + 16 ≤ length f
record_inside {f} {r} has i h = omega (
  arith,
  has.starts,
  has.many,
  sections f
      has.right.trailer,
)
