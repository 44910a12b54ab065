-- To be believed: a block record, four words at an offset of the file, and the rules that hold of
-- one (refusals 4 and 5).
use Rattle.std.specs.Prelude.{ℕ, zero, suc, ◌+◌, ◌*◌, ◌/◌, ◌%◌, ◌^◌, Bool, true, cond, ◌&&◌, List, leb, ltb, eqb}
use Rattle.armv4t.specs.Instr.{size_of}
use Rattle.file_records.specs.Bytes.{word_at}
use Rattle.file_records.specs.Trailer.{code_count, block_start}

-- the address of the block's first instruction
abbrev pub addr_at : List ℕ → ℕ → ℕ
addr_at f at = word_at f at

-- the flags, of which bits 0 and 1 have a meaning
abbrev pub flags_at : List ℕ → ℕ → ℕ
flags_at f at = word_at f (at + 4)

-- how many instructions the block has
abbrev pub count_at : List ℕ → ℕ → ℕ
count_at f at = word_at f (at + 8)

-- the offset of the block's code bytes from the file's start
abbrev pub code_offset_at : List ℕ → ℕ → ℕ
code_offset_at f at = word_at f (at + 12)

-- flag bit 0: a block of Thumb instructions
abbrev pub thumb_at : List ℕ → ℕ → Bool
thumb_at f at = eqb (flags_at f at % 2) 1

-- flag bit 1: the block's code bytes are present
abbrev pub present_at : List ℕ → ℕ → Bool
present_at f at = eqb (flags_at f at / 2 % 2) 1

-- the length of a block in bytes, its instruction count times their size
abbrev pub length_of : ℕ → Bool → ℕ
length_of count thumb = count * size_of thumb

-- the length in bytes of the block whose record stands at an offset
abbrev pub length_at : List ℕ → ℕ → ℕ
length_at f at = length_of (count_at f at) (thumb_at f at)

-- the key of a block (document 01): its address plus the Thumb bit
abbrev pub key_plus : ℕ → Bool → ℕ
key_plus addr thumb = addr + cond thumb 1 0

-- the key of the block whose record stands at an offset
abbrev pub key_at : List ℕ → ℕ → ℕ
key_at f at = key_plus (addr_at f at) (thumb_at f at)

-- an even address for Thumb, a multiple of 4 for ARM
unfoldable pub aligned : List ℕ → ℕ → Bool
aligned f at = eqb (addr_at f at % size_of (thumb_at f at)) 0

-- present code bytes end inside the code area; the offset of absent ones is 0
unfoldable pub code_right : List ℕ → ℕ → Bool
code_right f at =
    cond (present_at f at) (leb (code_offset_at f at + length_at f at) (code_count f))
    (eqb (code_offset_at f at) 0)

-- the rule of refusal 4: flags, count, alignment, an end not past 2^32, code bytes
unfoldable pub block_right : List ℕ → ℕ → Bool
block_right f at =
    ltb (flags_at f at) 4
    && leb 1 (count_at f at)
    && leb (count_at f at) 65535
    && aligned f at
    && leb (addr_at f at + length_at f at) (2 ^ 32)
    && code_right f at

-- the rule of refusal 5: the key of block i is above that of the block before it, if there is one
unfoldable pub key_rises : List ℕ → ℕ → Bool
key_rises f zero = true
key_rises f (suc i) = ltb (key_at f (block_start f i)) (key_at f (block_start f (suc i)))

-- the sum of the instruction counts of the first n blocks
unfoldable pub count_sum : List ℕ → ℕ → ℕ
count_sum f zero = 0
count_sum f (suc n) = count_sum f n + count_at f (block_start f n)
