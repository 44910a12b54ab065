-- Steps: where an instruction stands, and what is said of it, once a file is accepted.
use Rattle.std.specs.Prelude.{ℕ, ◌+◌, ◌≤◌, ◌<◌, ◌≡◌, List, get_or, Option, Some, None}
use Rattle.std.proofs.Math.Option.{none}
use Rattle.file_records.specs.BlockRecord.{count_at, count_sum}
use Rattle.file_records.specs.Trailer.{block_count, block_start}
use Rattle.file_blocks.specs.Parse.{blocks_of, instr_total, Accepted}
use Rattle.lower_reasons.specs.Said.{said_in_all}
use Rattle.emit_sentences.specs.Steps.{said_by}
use Rattle.emit_sentences.specs.declared.Sentence.{Sentence}
use Rattle.call_reasons.specs.declared.find.Place.{Place}

-- block i of an accepted file begins with instruction `first`, and has one with this index
pub record StandsIn (f : List ℕ) (i first index : ℕ) : Type 0 where
  pub accepted : Accepted f
  pub inside : i < block_count f
  pub starts : first ≡ count_sum f i
  pub has : index < count_at f (block_start f i)

-- instruction k stands in block i, which begins with instruction `first`
pub record StandsAt (f : List ℕ) (k i first : ℕ) : Type 0 where
  pub inside : i < block_count f
  pub starts : first ≡ count_sum f i
  pub from : first ≤ k
  pub before : k < first + count_at f (block_start f i)

-- where instruction k stands, if there is one
unfoldable pub IsFoundPlace : List ℕ → ℕ → Option Place → Type 0
IsFoundPlace f k (Some at) = StandsAt f k at.block at.first
IsFoundPlace f k None = instr_total (blocks_of f) ≤ k

-- what is said of instruction k, if there is one
unfoldable pub IsSaid : List ℕ → ℕ → Option (Option Sentence) → Type 0
IsSaid f k (Some s) =
    (k < instr_total (blocks_of f)) × (said_by s ≡ get_or (said_in_all (blocks_of f)) k none)
IsSaid f k None = instr_total (blocks_of f) ≤ k
