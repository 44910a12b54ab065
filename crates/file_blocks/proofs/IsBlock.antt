-- What a pass over the records of an accepted file has of a block.
-- Assumes nothing.
use Rattle.std.proofs.Common.{◌≡◌, ℕ, ◌+◌, ◌%◌, ◌^◌, ◌<◌, ◌≤◌, Bool, true, false, cond, ◌&&◌, ltb, leb, List, length, get_or, refl, ◌∙◌, mod-eq_of_lt, zero-add, add-one, arith, ltb-true, Some, None}
use Rattle.file_blocks.specs.declared.read.BlockRecord.{BlockRecord}
use Rattle.file_records.specs.Trailer.{block_count, instr_count, block_start}
use Rattle.file_records.specs.BlockRecord.{length_of, count_sum}
use Rattle.file_blocks.specs.Parse.{Block, block_at, blocks_of, Accepted}
use Rattle.file_blocks.specs.Read.{record_at, found_block, IsBlock}
use Rattle.file_blocks.proofs.Accepted.{block_of, length_of_lem, block_found, few_instrs}
use Rattle.file_blocks.proofs.Accepted.{has_instr, ends_inside, instrs_inside}

-- the reader of block records misses none
pub missing : (f : List ℕ) → Accepted f → (i : ℕ) → found_block f i ≡ None
    → block_count f ≤ i
missing f ok i e =
    let no : i < block_count f
    → ⊥ = λ h. let z : ◌≡◌ {A = ℕ} 0 1 =
    cc (block_found f (blocks_of f) ok i (omega (arith, length_of_lem f (blocks_of f) ok))) in
    omega arith in
    omega arith

-- block i is the one of its record
pub nth_block : (f : List ℕ) (i : ℕ) (d : Block) → i < block_count f
    → get_or (blocks_of f) i d ≡ block_at f (block_start f i) (count_sum f i)
unfolding count_sum
nth_block f i d h = rw zero-add at (block_of f (block_count f) 0 0 i d h refl)

-- what a record that was found says of the file
module _ (f : List ℕ) (i : ℕ) (b : BlockRecord) (found : found_block f i ≡ Some b) where
  tested : (p q : Bool) (x : BlockRecord)
      → cond (p && q) (Some x) None ≡ Some b → (p ≡ true) × (b ≡ x)
  tested true true x e = (refl, cc)
  tested true false x e = absurd (let z : ◌≡◌ {A = ℕ} 0 1 = cc in omega arith)
  tested false q x e = absurd (let z : ◌≡◌ {A = ℕ} 0 1 = cc in omega arith)

  both : (ltb i (block_count f) ≡ true) × (b ≡ record_at f (block_start f i))
  unfolding found_block
  both =
      tested (ltb i (block_count f)) (leb (block_start f i + 16) (length f))
      (record_at f (block_start f i)) found

  pub found_inside : i < block_count f
  found_inside = ltb-true _ _ both.0

  pub found_record : b ≡ record_at f (block_start f i)
  found_record = both.1

-- what a pass over the records has of block i
module _ {f : List ℕ} {i : ℕ} {b : BlockRecord} {first : ℕ} (is : IsBlock f i b first) where
  pub block_inside : i < block_count f
  block_inside = found_inside f i b is.found

  pub block_record : b ≡ record_at f (block_start f i)
  block_record = found_record f i b is.found

  pub some_instr : 1 ≤ b.count
  unfolding record_at
  some_instr = rw block_record (has_instr f (blocks_of f) is.accepted i block_inside)

  pub ends : b.addr + length_of b.count b.thumb ≤ 2 ^ 32
  unfolding record_at
  ends = rw block_record (ends_inside f (blocks_of f) is.accepted i block_inside)

  pub instrs_counted : first + b.count ≤ instr_count f
  unfolding record_at
  instrs_counted =
      rw (block_record, is.starts) (instrs_inside f (blocks_of f) is.accepted i block_inside)

  -- the sum of the counts before the next block, which does not wrap
  pub sum_next : (first + b.count) % 2 ^ 64 ≡ count_sum f (i + 1)
  unfolding count_sum record_at
  sum_next =
      let small : first + b.count < 2 ^ 64 =
      omega (arith, instrs_counted, few_instrs f (blocks_of f) is.accepted) in
      mod-eq_of_lt small ∙ rw (is.starts, block_record, add-one i)
