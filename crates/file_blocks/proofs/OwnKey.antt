-- The key that an exit to a block would have is the block's own.
-- Assumes nothing.
use Rattle.std.proofs.Common.{◌≡◌, ℕ, ◌%◌, Bool, true, false, List, sym, ap, ◌∙◌, add-zero, arith}
use Rattle.armv4t.specs.Instr.{size_of}
use Rattle.file_blocks.specs.declared.read.BlockRecord.{BlockRecord}
use Rattle.file_records.specs.Trailer.{block_start}
use Rattle.file_records.specs.BlockRecord.{addr_at, thumb_at, key_plus}
use Rattle.file_blocks.specs.Parse.{block_key, block_at, blocks_of}
use Rattle.file_blocks.specs.Read.{record_at, IsBlock}
use Rattle.file_blocks.proofs.Accepted.{address_aligned}
use Rattle.file_blocks.proofs.IsBlock.{block_inside, block_record}
use Rattle.file_blocks.specs.Address.{key_of}

-- a Thumb address of an accepted file is even
even : (thumb : Bool) (addr : ℕ) → addr % size_of thumb ≡ 0 → key_of addr thumb ≡ key_plus addr thumb
even true addr e = omega arith
even false addr e = sym (add-zero addr)

pub key_plus_lem : {f : List ℕ} {i : ℕ} {b : BlockRecord} {first : ℕ} → IsBlock f i b first
    → key_of b.addr b.thumb ≡ key_plus b.addr b.thumb
unfolding record_at
key_plus_lem {f} {i} is =
    rw (block_record is)
    (even (thumb_at f (block_start f i)) (addr_at f (block_start f i))
    (address_aligned f (blocks_of f) is.accepted i (block_inside is)))

-- and the key of the block that the record says
pub record_key : {f : List ℕ} {i : ℕ} {b : BlockRecord} {first : ℕ} → IsBlock f i b first
    → key_of b.addr b.thumb ≡ block_key (block_at f (block_start f i) first)
unfolding block_at record_at
record_key is =
    key_plus_lem is ∙ ap (λ (r : BlockRecord). key_plus r.addr r.thumb) (block_record is)
