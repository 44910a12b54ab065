-- The keys of an accepted file: block by block those of the records, rising, so no two the same.
-- Assumes nothing.
use Rattle.std.proofs.Common.{◌≡◌, ℕ, zero, suc, ◌<◌, List, get_or, sym, ap, ◌∙◌, subst, lt_trans, not-suc-le-zero, arith, ltb-true}
use native.Mathlib.Decide.{dec_lt}
use Rattle.file_records.specs.Trailer.{block_count, block_start}
use Rattle.file_records.specs.BlockRecord.{key_at, key_rises, count_sum}
use Rattle.file_blocks.specs.Parse.{Block, block_key, Parsed, block_at, parse}
use Rattle.file_blocks.proofs.Accepted.{blocks_of_lem, key_rises_lem}
use Rattle.file_blocks.proofs.IsBlock.{nth_block}

-- what rises from each number to the next rises from any to any later
rising : (k : ℕ → ℕ) (n : ℕ) → ((i : ℕ) → suc i < n → k i < k (suc i)) → (i j : ℕ) → i < j → j < n
    → k i < k j
rising k n step i zero h b = absurd (not-suc-le-zero h)
rising k n step i (suc j) h b =
    elim (dec_lt i j) [
      | yes l ↦ lt_trans (rising k n step i j l (omega arith)) (step j b)
      | no g ↦ let same : i ≡ j =
          omega arith in subst (λ (m : ℕ). k m < k (suc j)) (sym same) (step j b)
    ]

module _ (f : List ℕ) (bs : List Block) (accepted : parse f ≡ Parsed.accepted bs) where
  -- block i is that of its record
  pub block_is : (i : ℕ) (d : Block) → i < block_count f
      → get_or bs i d ≡ block_at f (block_start f i) (count_sum f i)
  block_is i d h = ap (λ (l : List Block). get_or l i d) (blocks_of_lem f bs accepted) ∙ nth_block f i d h

  pub block_key_lem : (i : ℕ) (d : Block) → i < block_count f
      → block_key (get_or bs i d) ≡ key_at f (block_start f i)
  unfolding block_at
  block_key_lem i d h = ap block_key (block_is i d h)

  next_key : (i : ℕ) → suc i < block_count f
      → key_at f (block_start f i) < key_at f (block_start f (suc i))
  unfolding key_rises
  next_key i h = ltb-true _ _ (key_rises_lem f bs accepted (suc i) h)

  -- of two blocks the later has the larger key
  pub keys_rise : (i j : ℕ) → i < j → j < block_count f
      → key_at f (block_start f i) < key_at f (block_start f j)
  keys_rise = rising (λ (i : ℕ). key_at f (block_start f i)) (block_count f) next_key

  -- two blocks with one key are one
  pub keys_differ : (i j : ℕ) → i < block_count f → j < block_count f
      → key_at f (block_start f i) ≡ key_at f (block_start f j) → i ≡ j
  keys_differ i j h l e =
      elim (dec_lt i j) [
        | yes a ↦ absurd (omega (arith, keys_rise i j a l))
        | no a ↦
            elim (dec_lt j i) [
              | yes b ↦ absurd (omega (arith, keys_rise j i b h))
              | no b ↦ omega arith
            ]
      ]
