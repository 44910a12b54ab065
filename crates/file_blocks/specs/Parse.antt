-- To be believed: a file as a whole: a refusal, or the list of its blocks.
use Rattle.std.specs.Prelude.{◌≡◌, ℕ, zero, suc, ◌+◌, Bool, cond, List, [], ◌∷◌, length, take, drop}
use Rattle.std.proofs.Math.Option.{Option, none, some}
use Rattle.armv4t.specs.Instr.{size_of}
use Rattle.file_instrs.specs.declared.decode.TimedInstr.{TimedInstr}
use Rattle.file_records.specs.Trailer.{block_count, block_start, instr_start}
use Rattle.file_records.specs.BlockRecord.{addr_at, count_at, code_offset_at, thumb_at, present_at}
use Rattle.file_records.specs.BlockRecord.{length_at, key_plus}
use Rattle.file_instrs.specs.Decode.{timed_at}
use Rattle.file_blocks.specs.declared.rule.Rule.{Rule}
use Rattle.file_blocks.specs.Refusal.{number, place, first_broken, rules}

-- a block: its address, whether it is Thumb, its code bytes or their absence, its instructions with
-- their costs
pub record Block : Type 0 where
  pub addr : ℕ
  pub thumb : Bool
  pub code : Option (List ℕ)
  pub instrs : List TimedInstr

-- its key
abbrev pub block_key : Block → ℕ
block_key b = key_plus b.addr b.thumb

-- n instructions of a file from record k on, at consecutive addresses
abbrev pub instrs_from : List ℕ → ℕ → ℕ → ℕ → Bool → List TimedInstr
instrs_from f zero k addr thumb = []
instrs_from f (suc n) k addr thumb =
    timed_at f (instr_start f k) addr thumb ∷ instrs_from f n (suc k) (addr + size_of thumb) thumb

-- n bytes of the file from an offset on, or those up to its end where it has fewer
abbrev pub slice : List ℕ → ℕ → ℕ → List ℕ
slice f start n = take n (drop start f)

-- the code bytes that the block record at an offset names
abbrev pub code_at : List ℕ → ℕ → Option (List ℕ)
code_at f at = cond (present_at f at) (some (slice f (code_offset_at f at) (length_at f at))) none

-- the block of the record at an offset, whose instructions are those from record k on
unfoldable pub block_at : List ℕ → ℕ → ℕ → Block
block_at f at k =
    record {
      addr = addr_at f at;
      thumb = thumb_at f at;
      code = code_at f at;
      instrs = instrs_from f (count_at f at) k (addr_at f at) (thumb_at f at);
    }

-- n blocks of a file from block i on, whose instructions are those from record k on
unfoldable pub blocks_from : List ℕ → ℕ → ℕ → ℕ → List Block
blocks_from f zero i k = []
blocks_from f (suc n) i k =
    block_at f (block_start f i) k ∷ blocks_from f n (suc i) (k + count_at f (block_start f i))

-- the blocks that a file's records say
abbrev pub blocks_of : List ℕ → List Block
blocks_of f = blocks_from f (block_count f) 0 0

-- what a file is: refused, with number and place, or accepted, with its blocks
pub data Parsed : Type 0 where
  refused : ℕ → ℕ → Parsed
  accepted : List Block → Parsed

-- the first broken rule refuses the file
abbrev pub parsed : List ℕ → Option Rule → Parsed
parsed f none = accepted (blocks_of f)
parsed f (some r) = refused (number r) (place r)

-- a file, by the first rule that it breaks
unfoldable pub parse : List ℕ → Parsed
parse f = parsed f (first_broken f (rules f))

-- a file is accepted, with these blocks
abbrev pub AcceptedAs : List ℕ → List Block → Type 0
AcceptedAs f bs = parse f ≡ accepted bs

-- a file is accepted (document 01): none of 1 to 7 applies
abbrev pub Accepted : List ℕ → Type 0
Accepted f = AcceptedAs f (blocks_of f)

-- how many instructions some blocks have
unfoldable pub instr_total : List Block → ℕ
instr_total [] = 0
instr_total (b ∷ bs) = length b.instrs + instr_total bs
