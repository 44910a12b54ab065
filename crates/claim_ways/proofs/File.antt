-- What an accepted file gives of its blocks: even addresses, an instruction at least, and no key
-- twice.
use Prim.Native.Nat.{ℕ, ◌%◌, ◌≤◌, ◌<◌}
use mathlib.Core.Path.{◌≡◌, sym, ap, ◌∙◌}
use mathlib.Core.List.{List}
use native.Mathlib.Omega.{arith}
use lib.ListN.{length, get_or}
use Rattle.file_records.specs.Trailer.{block_count, block_start}
use Rattle.file_records.specs.BlockRecord.{addr_at, thumb_at, count_at}
use Rattle.file_blocks.specs.Parse.{Block, Parsed, block_at, parse, block_key}
use Rattle.file_blocks.specs.Read.{record_at}
use Rattle.file_blocks.proofs.Accepted.{length_of_lem, has_instr, address_aligned, record_reads}
use Rattle.file_blocks.proofs.Keys.{block_is, block_key_lem, keys_differ}
use Rattle.lower_units.proofs.Aligned.{aligned_even}

module _ (f : List ℕ) (bs : List Block) (accepted : parse f ≡ Parsed.accepted bs) where
  long : length bs ≡ block_count f
  long = length_of_lem f bs accepted

  module _ (i : ℕ) (d : Block) (h : i < length bs) where
    inside : i < block_count f
    inside = omega (arith, long)

    pub block_even : (get_or bs i d).addr % 2 ≡ 0
    unfolding block_at
    block_even =
        ap (λ (b : Block). b.addr % 2) (block_is f bs accepted i d inside)
        ∙ aligned_even (thumb_at f (block_start f i)) (addr_at f (block_start f i))
        (address_aligned f bs accepted i inside)

    pub block_filled : 1 ≤ length (get_or bs i d).instrs
    unfolding record_at
    block_filled =
        let same : length (get_or bs i d).instrs ≡ count_at f (block_start f i)
        = ap (λ (b : Block). length b.instrs) (block_is f bs accepted i d inside)
        ∙ sym (record_reads f bs accepted i inside).count in
        omega (arith, same, has_instr f bs accepted i inside)

  -- two blocks with one key are one
  pub one_key : (d : Block) (i j : ℕ) → i < length bs → j < length bs
      → block_key (get_or bs i d) ≡ block_key (get_or bs j d) → i ≡ j
  one_key d i j h l e =
      let here : i < block_count f = omega (arith, long) in
      let there : j < block_count f = omega (arith, long) in
      keys_differ f bs accepted i j here there
      (sym (block_key_lem f bs accepted i d here) ∙ e ∙ block_key_lem f bs accepted j d there)
