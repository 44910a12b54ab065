-- To be believed: the trailer, eight words at the file's end, the rules that hold of them (refusals
-- 1, 2 and 3), and where the records stand.
use Rattle.std.specs.Prelude.{ℕ, ◌+◌, ◌*◌, ◌-◌, Bool, cond, ◌&&◌, List, length, leb, eqb}
use Rattle.file_records.specs.Bytes.{word_at}

-- the rule of refusal 1: the file holds a trailer
abbrev pub has_trailer : List ℕ → Bool
has_trailer f = leb 32 (length f)

-- word k of the trailer, from 0; in a file under 32 bytes, which has none, 0
unfoldable pub trailer_word : List ℕ → ℕ → ℕ
trailer_word f k = cond (has_trailer f) (word_at f (length f - 32 + 4 * k)) 0

-- the edition of the format, 1 in an accepted file
abbrev pub edition : List ℕ → ℕ
edition f = trailer_word f 0

-- the distance from the file's end back to the first block record
abbrev pub blocks_back : List ℕ → ℕ
blocks_back f = trailer_word f 1

-- B of document 01
abbrev pub block_count : List ℕ → ℕ
block_count f = trailer_word f 2

-- the distance from the file's end back to the first instruction record
abbrev pub instrs_back : List ℕ → ℕ
instrs_back f = trailer_word f 3

-- I of document 01
abbrev pub instr_count : List ℕ → ℕ
instr_count f = trailer_word f 4

-- the distance from the file's end back to the first code byte
abbrev pub code_back : List ℕ → ℕ
code_back f = trailer_word f 5

-- how many bytes the code area has
abbrev pub code_count : List ℕ → ℕ
code_count f = trailer_word f 6

-- the length of the file in bytes, as the trailer has it
abbrev pub file_length : List ℕ → ℕ
file_length f = trailer_word f 7

-- the rule of refusal 2: B and I are within their limits
unfoldable pub within_limits : List ℕ → Bool
within_limits f = leb (block_count f) 65536 && leb (instr_count f) 1048576

-- the rule of refusal 3: the edition, the distances of sections that touch, and the lengths
unfoldable pub trailer_right : List ℕ → Bool
trailer_right f =
    eqb (edition f) 1
    && eqb (blocks_back f) (32 + 16 * block_count f)
    && eqb (instrs_back f) (32 + 16 * block_count f + 16 * instr_count f)
    && eqb (code_back f) (length f)
    && eqb (code_count f + instrs_back f) (length f)
    && eqb (file_length f) (length f)

-- the offset of block record i
abbrev pub block_start : List ℕ → ℕ → ℕ
block_start f i = length f - blocks_back f + 16 * i

-- the offset of instruction record i
abbrev pub instr_start : List ℕ → ℕ → ℕ
instr_start f i = length f - instrs_back f + 16 * i
