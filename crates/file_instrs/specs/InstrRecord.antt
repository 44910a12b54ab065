-- To be believed: an instruction record, 16 bytes at an offset of the file, the largest value of
-- each, called its limits, and the rules that hold of a record (refusal 7).
use Rattle.std.specs.Prelude.{ℕ, ◌+◌, ◌%◌, Bool, true, cond, ◌&&◌, List, [], ◌∷◌, get_or, leb, eqb}
use Rattle.file_records.specs.Bytes.{byte_at}

-- the largest value of a byte that holds a flag
abbrev pub max_flag : ℕ
max_flag = 1

-- the largest value of a byte that holds a register
abbrev pub max_reg : ℕ
max_reg = 15

-- the largest value of a byte that has no limit of its own
abbrev pub max_byte : ℕ
max_byte = 255

-- the limits by the form in byte 8; a form that does not exist is over the first ones
abbrev pub by_form : ℕ → List ℕ → List ℕ → List ℕ → List ℕ
by_form form value amount register = get_or (value ∷ amount ∷ register ∷ []) form value

-- bytes 4 to 15 of a kind that leaves them free
abbrev pub free : List ℕ
free =
    max_byte ∷ max_byte ∷ max_byte ∷ max_byte ∷ max_byte ∷ max_byte ∷ max_byte ∷ max_byte ∷ max_byte
    ∷ max_byte ∷ max_byte ∷ max_byte ∷ []

-- the largest value of each of bytes 4 to 15, kind by kind: operations, flags, registers, forms,
-- shift kinds, amounts, and 0 for what must be zero
abbrev pub by_kind : ℕ → List (List ℕ)
by_kind form =
    -- Alu: operation, s, rd, rn, form, ror or rm, shift kind, amount or rs, value
    by_form form
    (15 ∷ max_flag ∷ max_reg ∷ max_reg ∷ 0 ∷ 30 ∷ 0 ∷ 0 ∷ max_byte ∷ max_byte ∷ max_byte ∷ max_byte
    ∷ [])
    (15 ∷ max_flag ∷ max_reg ∷ max_reg ∷ 1 ∷ max_reg ∷ 3 ∷ 31 ∷ 0 ∷ 0 ∷ 0 ∷ 0 ∷ [])
    (15 ∷ max_flag ∷ max_reg ∷ max_reg ∷ 2 ∷ max_reg ∷ 3 ∷ max_reg ∷ 0 ∷ 0 ∷ 0 ∷ 0 ∷ [])
    -- Mul: acc, s, rd, rn, rs, rm
    ∷ (max_flag ∷ max_flag ∷ max_reg ∷ max_reg ∷ max_reg ∷ max_reg ∷ 0 ∷ 0 ∷ 0 ∷ 0 ∷ 0 ∷ 0 ∷ [])
    -- MulLong: signed, acc, s, rd_hi, rd_lo, rs, rm
    ∷ (max_flag ∷ max_flag ∷ max_flag ∷ max_reg ∷ max_reg ∷ max_reg ∷ max_reg ∷ 0 ∷ 0 ∷ 0 ∷ 0 ∷ 0 ∷ [])
    -- Swap
    ∷ free
    -- Bx: rm
    ∷ (max_reg ∷ 0 ∷ 0 ∷ 0 ∷ 0 ∷ 0 ∷ 0 ∷ 0 ∷ 0 ∷ 0 ∷ 0 ∷ 0 ∷ [])
    -- Branch: link, target
    ∷ (max_flag ∷ 0 ∷ 0 ∷ 0 ∷ 0 ∷ 0 ∷ 0 ∷ 0 ∷ max_byte ∷ max_byte ∷ max_byte ∷ max_byte ∷ [])
    -- ThumbBlHigh: lr_partial
    ∷ (0 ∷ 0 ∷ 0 ∷ 0 ∷ 0 ∷ 0 ∷ 0 ∷ 0 ∷ max_byte ∷ max_byte ∷ max_byte ∷ max_byte ∷ [])
    -- ThumbBlLow: off
    ∷ (0 ∷ 0 ∷ 0 ∷ 0 ∷ 0 ∷ 0 ∷ 0 ∷ 0 ∷ max_byte ∷ max_byte ∷ 0 ∷ 0 ∷ [])
    -- Mem: five flag bits, width, rd, rn, form, rm, shift kind, amount or rs, value
    ∷ by_form form (31 ∷ 2 ∷ max_reg ∷ max_reg ∷ 0 ∷ 0 ∷ 0 ∷ 0 ∷ max_byte ∷ max_byte ∷ 0 ∷ 0 ∷ [])
    (31 ∷ 2 ∷ max_reg ∷ max_reg ∷ 1 ∷ max_reg ∷ 3 ∷ 31 ∷ 0 ∷ 0 ∷ 0 ∷ 0 ∷ [])
    (31 ∷ 2 ∷ max_reg ∷ max_reg ∷ 2 ∷ max_reg ∷ 3 ∷ max_reg ∷ 0 ∷ 0 ∷ 0 ∷ 0 ∷ [])
    -- BlockMem: five flag bits, rn, rlist
    ∷ (31 ∷ 0 ∷ max_reg ∷ 0 ∷ 0 ∷ 0 ∷ 0 ∷ 0 ∷ max_byte ∷ max_byte ∷ 0 ∷ 0 ∷ [])
    -- Mrs, MsrReg, MsrImm, Swi, Undefined
    ∷ []

-- the limits of the fields of a kind and form
abbrev pub fields : ℕ → ℕ → List ℕ
fields kind form = get_or (by_kind form) kind free

-- the largest value of each byte of a record: kind, condition, cost, and the fields of its kind
unfoldable pub largest : ℕ → ℕ → List ℕ
largest kind form = 14 ∷ 15 ∷ max_byte ∷ max_byte ∷ fields kind form

-- the bytes from an offset on are at most these limits, one by one
unfoldable pub within : List ℕ → ℕ → List ℕ → Bool
within f at [] = true
within f at (most ∷ limits) = leb (byte_at f at) most && within f (at + 1) limits

-- whether a number is even; of a word the low byte settles it
abbrev pub even : ℕ → Bool
even n = eqb (n % 2) 0

-- what must be even: the rotation of an Alu value and the target of a Branch
unfoldable pub even_fields : List ℕ → ℕ → Bool
even_fields f at =
    cond (eqb (byte_at f at) 0 && eqb (byte_at f (at + 8)) 0) (even (byte_at f (at + 9)))
    (cond (eqb (byte_at f at) 5) (even (byte_at f (at + 12))) true)

-- the rule of refusal 7: each byte is in its range, and what must be even is
unfoldable pub instr_right : List ℕ → ℕ → Bool
instr_right f at = within f at (largest (byte_at f at) (byte_at f (at + 8))) && even_fields f at
