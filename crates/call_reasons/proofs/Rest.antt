-- What is said of the instructions of a file from a block on.
-- Assumes nothing.
use Rattle.std.proofs.Common.{Option as Found, Some}
use Prim.Native.Nat.{ℕ, zero, suc, ◌+◌, ◌-◌, ◌≤◌, ◌<◌}
use mathlib.Core.Path.{◌≡◌, refl, sym, ap, ap₂, ◌∙◌}
use mathlib.Core.Bool.{Bool, true, false, not, cond, ◌||◌}
use mathlib.Core.List.{List, [], ◌∷◌, ◌++◌}
use mathlib.Core.Option.{Option, none, some}
use native.Mathlib.Nat.{le_of_suc-le-suc}
use native.Mathlib.Omega.{arith}
use lib.ListN.{length, get_or, drop, length-drop}
use lib.Seq.{drop-drop, drop-append-le, drop-append_seam, get_or-drop}
use Rattle.base_lists.specs.Lists.{is_some}
use Rattle.file_records.specs.BlockRecord.{count_at, count_sum}
use Rattle.file_records.specs.Trailer.{block_count, block_start}
use Rattle.file_blocks.specs.declared.read.BlockRecord.{BlockRecord}
use Rattle.file_blocks.specs.Address.{region, outside_rom_bios}
use Rattle.file_blocks.specs.Parse.{block_at, blocks_from, blocks_of, instr_total, Accepted}
use Rattle.file_blocks.specs.Read.{record_at, found_block, instrs_of, IsBlock}
use Rattle.file_blocks.proofs.Accepted.{sums, instrs_of_lem, instrs_inside, record_reads}
use Rattle.file_blocks.proofs.IsBlock.{block_inside, block_record}
use Rattle.lower_reasons.specs.Lines.{lines_of}
use Rattle.lower_reasons.specs.Said.{Said, nothing_of, said_each, said_in, said_in_all}
use Rattle.claim_reasons.proofs.Claims.{in_length}
use Rattle.emit_reasons.specs.Steps.{said_in_record}
use Rattle.emit_reasons.proofs.Putting.{lines_append}
use Rattle.call_reasons.specs.Steps.{StandsAt}

-- what is said of the instructions from block i on
abbrev pub rest_from : List ℕ → ℕ → List (Option Said)
rest_from f i = said_in_all (blocks_from f (block_count f - i) i (count_sum f i))

-- block i, and those after it
pub rest_block : (f : List ℕ) (i : ℕ) → i < block_count f
    → rest_from f i ≡ said_in (block_at f (block_start f i) (count_sum f i)) ++ rest_from f (suc i)
unfolding said_in_all blocks_from count_sum
rest_block f i h =
    ap (λ (n : ℕ). said_in_all (blocks_from f n i (count_sum f i)))
    (let e : block_count f - i ≡ suc (block_count f - suc i) = omega arith in e)

-- after the last block nothing is left
pub rest_none : (f : List ℕ) (i : ℕ) → block_count f ≤ i → rest_from f i ≡ []
unfolding said_in_all blocks_from
rest_none f i h =
    ap (λ (n : ℕ). said_in_all (blocks_from f n i (count_sum f i)))
    (let e : block_count f - i ≡ 0 = omega arith in e)

module _ (f : List ℕ) (ok : Accepted f) where
  -- a block has as many instructions as its record says
  block_length : (i : ℕ) → i < block_count f
      → length (said_in (block_at f (block_start f i) (count_sum f i))) ≡ count_at f (block_start f i)
  unfolding record_at
  block_length i h =
      in_length (block_at f (block_start f i) (count_sum f i))
      ∙ sym (record_reads f (blocks_of f) ok i h).count

  -- the rest begins with the first instruction of its first block
  pub rest_drop : (i : ℕ) → i ≤ block_count f
      → drop (count_sum f i) (said_in_all (blocks_of f)) ≡ rest_from f i
  unfolding count_sum
  rest_drop zero h =
      ap (λ (n : ℕ). said_in_all (blocks_from f n 0 0))
      (let e : block_count f ≡ block_count f - 0 = omega arith in e)
  rest_drop (suc i) h =
      sym (drop-drop (count_at f (block_start f i)) (count_sum f i) (said_in_all (blocks_of f)))
      ∙ ap (drop (count_at f (block_start f i))) (rest_drop i (omega arith) ∙ rest_block f i h)
      ∙ ap
      (λ (n : ℕ). drop n
      (said_in (block_at f (block_start f i) (count_sum f i)) ++ rest_from f (suc i)))
      (sym (block_length i h))
      ∙ drop-append_seam (said_in (block_at f (block_start f i) (count_sum f i))) (rest_from f (suc i))

  -- how many instructions there are
  pub total_is : instr_total (blocks_of f) ≡ count_sum f (block_count f)
  total_is = instrs_of_lem f (blocks_of f) ok ∙ sym (sums f (blocks_of f) ok)

-- a block that was found by its number
pub block_is : {f : List ℕ} → Accepted f → {i : ℕ} {q : Found BlockRecord} {r : BlockRecord} {first : ℕ}
    → q ≡ found_block f i → q ≡ Some r → first ≡ count_sum f i → IsBlock f i r first
block_is ok e g starts = record { accepted = ok; found = sym e ∙ g; starts = starts }

-- one of the first of two lists
among_first : (os ps : List (Option Said)) (n : ℕ) → n < length os
    → get_or (os ++ ps) n none ≡ get_or os n none
among_first [] ps n h = absurd (omega arith)
among_first (o ∷ os) ps zero h = refl
among_first (o ∷ os) ps (suc n) h = among_first os ps n (le_of_suc-le-suc h)

-- what is said of a block, by its record
module _ {f : List ℕ} {i : ℕ} {r : BlockRecord} {first : ℕ} (is : IsBlock f i r first) where
  present : {A : Type 0} (t : Bool) (x : A) → is_some (cond t (some x) none) ≡ t
  present true x = refl
  present false x = refl

  pub said_record : said_in (block_at f (block_start f i) first) ≡ said_in_record f r first
  unfolding said_in said_in_record block_at record_at
  said_record =
      let b : BlockRecord = record_at f (block_start f i) in
      ap
      (λ (t : Bool). cond (not (outside_rom_bios b.addr) || t)
      (said_each (region b.addr) (instrs_of f b first)) (nothing_of (instrs_of f b first)))
      (present b.present _)
      ∙ ap (λ (c : BlockRecord). said_in_record f c first) (sym (block_record is))

  -- its length
  pub record_count_lem : r.count ≡ count_at f (block_start f i)
  unfolding record_at
  record_count_lem = ap (λ (c : BlockRecord). c.count) (block_record is)

  -- the first instruction of the block after it
  pub next_starts : first + r.count ≡ count_sum f (i + 1)
  unfolding count_sum
  next_starts =
      ap₂ (λ (m n : ℕ). m + n) is.starts record_count_lem
      ∙ ap (count_sum f) (let e : suc i ≡ i + 1 = omega arith in e)

  said_length : length (said_in_record f r first) ≡ r.count
  said_length =
      ap length (sym said_record ∙ ap (λ (k : ℕ). said_in (block_at f (block_start f i) k))
      is.starts)
      ∙ block_length f is.accepted i (block_inside is)
      ∙ sym record_count_lem

  -- the rest from a block on
  pub rest_record : rest_from f i ≡ said_in_record f r first ++ rest_from f (suc i)
  rest_record =
      rest_block f i (block_inside is)
      ∙ ap (λ (os : List (Option Said)). os ++ rest_from f (suc i))
      (ap (λ (k : ℕ). said_in (block_at f (block_start f i) k)) (sym is.starts) ∙ said_record)

  -- the lines from an instruction of it on: those of the block, and those after
  pub lines_record : (skip : ℕ) → skip ≤ r.count
      → lines_of (first + skip) (drop skip (rest_from f i))
      ≡ lines_of (first + skip) (drop skip (said_in_record f r first))
      ++ lines_of (first + r.count) (rest_from f (suc i))
  lines_record skip h =
      let os : List (Option Said) = said_in_record f r first in
      ap (λ (l : List (Option Said)). lines_of (first + skip) (drop skip l)) rest_record
      ∙ ap (lines_of (first + skip))
      (drop-append-le skip os (rest_from f (suc i)) (omega (arith, said_length)))
      ∙ lines_append (first + skip) (drop skip os) (rest_from f (suc i))
      ∙ ap
      (λ (n : ℕ). lines_of (first + skip) (drop skip os) ++ lines_of n (rest_from f (suc i)))
      (let e : first + skip + length (drop skip os) ≡ first + r.count =
      omega (arith, length-drop skip os, said_length) in e)

  -- the instruction with an index
  pub said_in_all_lem : (n : ℕ) → n < r.count
      → get_or (said_in_record f r first) n none ≡ get_or (said_in_all (blocks_of f)) (first + n) none
  said_in_all_lem n h =
      sym
      (ap (λ (k : ℕ). get_or (said_in_all (blocks_of f)) k none)
      (ap (λ (m : ℕ). m + n) is.starts)
      ∙ sym (get_or-drop (count_sum f i) (said_in_all (blocks_of f)) n none)
      ∙ ap (λ (l : List (Option Said)). get_or l n none)
      (rest_drop f is.accepted i (omega (arith, block_inside is)) ∙ rest_record)
      ∙ among_first (said_in_record f r first) (rest_from f (suc i)) n (omega (arith, said_length)))

-- an instruction that stands in a block is one of the file
pub in_file : (f : List ℕ) → Accepted f → {k i first : ℕ} → StandsAt f k i first
    → k < instr_total (blocks_of f)
in_file f ok {k} {i} {first} stands =
    omega (
      arith,
      stands.before,
      stands.starts,
      instrs_inside f (blocks_of f) ok i stands.inside,
      instrs_of_lem f (blocks_of f) ok,
    )
