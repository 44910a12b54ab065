-- Examples: files that compute. Document 01's three blocks are accepted, and for each rule of the
-- table a file is refused by it.
use Rattle.std.specs.Prelude.{◌≡◌, ℕ, List, [], ◌∷◌, ◌++◌, take, slice_set, refl, Ok, Err}
use Rattle.file_blocks.specs.declared.rule.Rule.{Rule}
use Rattle.file_records.specs.Trailer.{trailer_word, within_limits, trailer_right}
use Rattle.file_records.specs.BlockRecord.{aligned, code_right, block_right, key_rises, count_sum}
use Rattle.file_instrs.specs.InstrRecord.{largest, within, even_fields, instr_right}
use Rattle.file_blocks.specs.Parse.{Parsed, block_at, blocks_from, parse, instr_total}
use Rattle.file_blocks.specs.Checked.{checked}

-- a branch over one block to another, each of one instruction
three_blocks : List ℕ
three_blocks =
    (5 ∷ 14 ∷ 0 ∷ 0 ∷ 0 ∷ 0 ∷ 0 ∷ 0 ∷ 0 ∷ 0 ∷ 0 ∷ 0 ∷ 8 ∷ 0 ∷ 0 ∷ 8 ∷ [])
    ++ (4 ∷ 14 ∷ 0 ∷ 0 ∷ 14 ∷ 0 ∷ 0 ∷ 0 ∷ 0 ∷ 0 ∷ 0 ∷ 0 ∷ 0 ∷ 0 ∷ 0 ∷ 0 ∷ [])
    ++ (4 ∷ 14 ∷ 0 ∷ 0 ∷ 14 ∷ 0 ∷ 0 ∷ 0 ∷ 0 ∷ 0 ∷ 0 ∷ 0 ∷ 0 ∷ 0 ∷ 0 ∷ 0 ∷ [])
    ++ (0 ∷ 0 ∷ 0 ∷ 8 ∷ 0 ∷ 0 ∷ 0 ∷ 0 ∷ 1 ∷ 0 ∷ 0 ∷ 0 ∷ 0 ∷ 0 ∷ 0 ∷ 0 ∷ [])
    ++ (4 ∷ 0 ∷ 0 ∷ 8 ∷ 0 ∷ 0 ∷ 0 ∷ 0 ∷ 1 ∷ 0 ∷ 0 ∷ 0 ∷ 0 ∷ 0 ∷ 0 ∷ 0 ∷ [])
    ++ (8 ∷ 0 ∷ 0 ∷ 8 ∷ 0 ∷ 0 ∷ 0 ∷ 0 ∷ 1 ∷ 0 ∷ 0 ∷ 0 ∷ 0 ∷ 0 ∷ 0 ∷ 0 ∷ [])
    ++ (1 ∷ 0 ∷ 0 ∷ 0 ∷ 80 ∷ 0 ∷ 0 ∷ 0 ∷ 3 ∷ 0 ∷ 0 ∷ 0 ∷ 128 ∷ 0 ∷ 0 ∷ 0 ∷ [])
    ++ (3 ∷ 0 ∷ 0 ∷ 0 ∷ 128 ∷ 0 ∷ 0 ∷ 0 ∷ 0 ∷ 0 ∷ 0 ∷ 0 ∷ 128 ∷ 0 ∷ 0 ∷ 0 ∷ [])

-- it is accepted, with its counts
small_accepted : checked three_blocks ≡ Ok (record { blocks = 3; instructions = 3 })
unfolding three_blocks checked blocks_from block_at instr_total trailer_word within_limits
    trailer_right aligned code_right block_right key_rises count_sum largest within even_fields
    instr_right
small_accepted = refl

-- a file, the first rule that it breaks, and its refusal's number and place
record Case : Type 0 where
  file : List ℕ
  rule : Rule
  number : ℕ
  place : ℕ

cases : List Case
cases =
    record { file = take 31 three_blocks; rule = Rule.Short; number = 1; place = 0 }
    -- 65,537 blocks
    ∷ record {
      file = slice_set (slice_set three_blocks 104 1) 106 1;
      rule = Rule.Limits;
      number = 2;
      place = 0;
    }
    -- edition 2
    ∷ record { file = slice_set three_blocks 96 2; rule = Rule.Trailer; number = 3; place = 0 }
    -- the second address is odd
    ∷ record { file = slice_set three_blocks 64 5; rule = Rule.Block 1; number = 4; place = 1 }
    -- the third key is the second
    ∷ record { file = slice_set three_blocks 80 4; rule = Rule.Order 2; number = 5; place = 2 }
    -- the first block has two instructions
    ∷ record { file = slice_set three_blocks 56 2; rule = Rule.Sum; number = 6; place = 0 }
    -- the third instruction is Bx of register 16
    ∷ record { file = slice_set three_blocks 36 16; rule = Rule.Instr 2; number = 7; place = 2 }
    ∷ []

-- the check answers with each rule, and the file is refused with its number and place
Each : List Case → Type 0
Each [] = Unit {0}
Each (c ∷ more) =
    ((checked c.file ≡ Err c.rule) × (parse c.file ≡ Parsed.refused c.number c.place)) × Each more

small_files : Each cases
unfolding Each cases three_blocks checked parse blocks_from block_at instr_total trailer_word
    within_limits trailer_right aligned code_right block_right key_rises count_sum largest within
    even_fields instr_right
small_files = (
  (refl, refl),
  (
    (refl, refl),
    (
      (refl, refl),
      (
        (refl, refl),
        (
          (refl, refl),
          (
            (refl, refl),
            ((refl, refl), tt),
          ),
        ),
      ),
    ),
  ),
)
