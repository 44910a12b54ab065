-- What the readers answer, by the tests that the code makes.
-- Assumes nothing.
use Rattle.std.proofs.Common.{◌≡◌, ℕ, ◌+◌, ◌-◌, ◌*◌, ◌<◌, ◌≤◌, Bool, true, false, List, [], length, take, drop, ap, le-ltb, lt-ltb, le-leb, cond, refl, Some, None, option_map}
use mathlib.Core.Bool.{and-false}
use native.Mathlib.Nat.{add-sub_cancel_left}
use borrow.Author.Tests.{lt-leb}
use Rattle.file_records.specs.Trailer.{trailer_word, block_count, instr_count, block_start}
use Rattle.file_records.specs.Trailer.{instr_start}
use Rattle.file_instrs.specs.Decode.{timed_at}
use Rattle.file_records.specs.BlockRecord.{length_of}
use Rattle.file_blocks.specs.declared.read.BlockRecord.{BlockRecord}
use Rattle.file_blocks.specs.Read.{record_at, offset_of, found_block, found_instr}
use Rattle.file_blocks.specs.Read.{code_bytes}

-- where a record stands, from where the code found that its section begins
module _ (f : List ℕ) (k i start : ℕ) where
  pub not_counted : trailer_word f (k + 1) ≤ i → None ≡ offset_of f k i
  unfolding offset_of
  not_counted h = simp (le-ltb _ _ h)

  pub past_end : start ≡ length f - trailer_word f k → length f < start + 16 * i + 16
      → None ≡ offset_of f k i
  unfolding offset_of
  past_end e h = rw (← e, lt-leb _ _ h, and-false)

  pub inside : i < trailer_word f (k + 1) → start ≡ length f - trailer_word f k
      → start + 16 * i + 16 ≤ length f
      → Some (start + 16 * i) ≡ offset_of f k i
  unfolding offset_of
  inside b e h = rw (lt-ltb _ _ b, ← e, le-leb _ _ h)

-- what is read at an offset under a test
mapped : {A : Type 0} (g : ℕ → A) (b : Bool) (at : ℕ)
    → option_map g (cond b (Some at) None) ≡ cond b (Some (g at)) None
mapped g true at = refl
mapped g false at = refl

-- a record is what is read where it stands
pub block_read : (f : List ℕ) (i : ℕ)
    → option_map (record_at f) (offset_of f 1 i) ≡ found_block f i
unfolding offset_of found_block
block_read f i = mapped (record_at f) _ _

pub instr_read : (f : List ℕ) (i addr : ℕ) (thumb : Bool)
    → option_map (λ (at : ℕ). timed_at f at addr thumb) (offset_of f 3 i)
    ≡ found_instr f i addr thumb
unfolding offset_of found_instr
instr_read f i addr thumb = mapped (λ (at : ℕ). timed_at f at addr thumb) _ _

-- the records that there are
pub block_there : (f : List ℕ) (i : ℕ) → i < block_count f → block_start f i + 16 ≤ length f
    → found_block f i ≡ Some (record_at f (block_start f i))
unfolding found_block
block_there f i b h = rw (lt-ltb _ _ b, le-leb _ _ h)

pub instr_there : (f : List ℕ) (i addr : ℕ) (thumb : Bool) → i < instr_count f
    → instr_start f i + 16 ≤ length f
    → found_instr f i addr thumb ≡ Some (timed_at f (instr_start f i) addr thumb)
unfolding found_instr
instr_there f i addr thumb b h = rw (lt-ltb _ _ b, le-leb _ _ h)

-- the code bytes of a record, whose length the code computed
module _ (f : List ℕ) (b : BlockRecord) (n : ℕ) (long : n ≡ length_of b.count b.thumb) where
  pub no_code : b.present ≡ false → [] ≡ code_bytes f b
  unfolding code_bytes
  no_code e = rw e

  pub code_past : b.present ≡ true → length f < b.offset + n → [] ≡ code_bytes f b
  unfolding code_bytes
  code_past e h = rw (e, ← long, lt-leb _ _ h)

  pub code_there : b.present ≡ true → b.offset + n ≤ length f
      → take (b.offset + n - b.offset) (drop b.offset f) ≡ code_bytes f b
  unfolding code_bytes
  code_there e h =
      rw (e, ← long, le-leb _ _ h)
      (ap (λ (k : ℕ). take k (drop b.offset f)) (add-sub_cancel_left b.offset n))
