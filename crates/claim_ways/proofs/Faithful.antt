-- What the proof of the claim needs of how a block is printed.
use Prim.Native.Nat.{ℕ}
use mathlib.Core.Option.{Option}
use mathlib.Core.Path.{◌≡◌}
use lib.ListN.{length}
use Rattle.file_blocks.specs.Parse.{Block}
use Rattle.lower_forms.specs.Forms.{Body}
use Rattle.lower_forms.proofs.RecordCount.{record_counts}

-- that its forms are the block's, hash_of being the hash of its code bytes or their absence, and
-- stand for each of its instructions
pub record Faithful (hash_of : Block → Option ℕ) (body_of : Block → Body) : Type 0 where
  pub addr : (b : Block) → (body_of b).addr ≡ b.addr
  pub thumb : (b : Block) → (body_of b).thumb ≡ b.thumb
  pub count : (b : Block) → (body_of b).count ≡ length b.instrs
  pub hash : (b : Block) → (body_of b).hash ≡ hash_of b
  pub whole : (b : Block) → record_counts (body_of b).forms ≡ (body_of b).count
