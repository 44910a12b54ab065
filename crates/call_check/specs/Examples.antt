-- Examples: the call for the check of a refused file and of an accepted one, computed.
use Rattle.std.specs.Prelude.{◌≡◌, refl, ℕ, false, List, [], ◌∷◌, ◌++◌}
use Rattle.std.proofs.Math.Option.{none}
use Rattle.file_records.specs.BlockRecord.{aligned, code_right, block_right, key_rises, count_sum}
use Rattle.file_records.specs.Trailer.{trailer_word, within_limits, trailer_right}
use Rattle.file_instrs.specs.InstrRecord.{largest, within, even_fields, instr_right}
use Rattle.file_blocks.specs.Parse.{Block, Parsed, parse, blocks_from, block_at, instr_total}
use Rattle.call_frame.specs.Frame.{call_on_blocks, call_frame}
use Rattle.call_check.specs.Calls.{check_call, check_numbers}

-- the refusal, and no counts
check_refused : check_numbers (check_call (Parsed.refused 4 2)) ≡ 4 ∷ 2 ∷ 0 ∷ 0 ∷ []
unfolding call_frame
check_refused = refl

-- a block without instructions, which no file has
bare : Block
bare = record { addr = 0; thumb = false; code = none; instrs = [] }

-- no refusal, two blocks and no instructions
check_accepted : check_numbers (check_call (Parsed.accepted (bare ∷ bare ∷ []))) ≡ 0 ∷ 0 ∷ 2 ∷ 0 ∷ []
unfolding call_frame call_on_blocks instr_total bare
check_accepted = refl

-- a whole file: a branch and two returns, in three ARM blocks
small : List ℕ
small =
    (5 ∷ 14 ∷ 0 ∷ 0 ∷ 0 ∷ 0 ∷ 0 ∷ 0 ∷ 0 ∷ 0 ∷ 0 ∷ 0 ∷ 8 ∷ 0 ∷ 0 ∷ 8 ∷ [])
    ++ (4 ∷ 14 ∷ 0 ∷ 0 ∷ 14 ∷ 0 ∷ 0 ∷ 0 ∷ 0 ∷ 0 ∷ 0 ∷ 0 ∷ 0 ∷ 0 ∷ 0 ∷ 0 ∷ [])
    ++ (4 ∷ 14 ∷ 0 ∷ 0 ∷ 14 ∷ 0 ∷ 0 ∷ 0 ∷ 0 ∷ 0 ∷ 0 ∷ 0 ∷ 0 ∷ 0 ∷ 0 ∷ 0 ∷ [])
    ++ (0 ∷ 0 ∷ 0 ∷ 8 ∷ 0 ∷ 0 ∷ 0 ∷ 0 ∷ 1 ∷ 0 ∷ 0 ∷ 0 ∷ 0 ∷ 0 ∷ 0 ∷ 0 ∷ [])
    ++ (4 ∷ 0 ∷ 0 ∷ 8 ∷ 0 ∷ 0 ∷ 0 ∷ 0 ∷ 1 ∷ 0 ∷ 0 ∷ 0 ∷ 0 ∷ 0 ∷ 0 ∷ 0 ∷ [])
    ++ (8 ∷ 0 ∷ 0 ∷ 8 ∷ 0 ∷ 0 ∷ 0 ∷ 0 ∷ 1 ∷ 0 ∷ 0 ∷ 0 ∷ 0 ∷ 0 ∷ 0 ∷ 0 ∷ [])
    ++ (1 ∷ 0 ∷ 0 ∷ 0 ∷ 80 ∷ 0 ∷ 0 ∷ 0 ∷ 3 ∷ 0 ∷ 0 ∷ 0 ∷ 128 ∷ 0 ∷ 0 ∷ 0 ∷ [])
    ++ (3 ∷ 0 ∷ 0 ∷ 0 ∷ 128 ∷ 0 ∷ 0 ∷ 0 ∷ 0 ∷ 0 ∷ 0 ∷ 0 ∷ 128 ∷ 0 ∷ 0 ∷ 0 ∷ [])

-- its bytes are read, and it is accepted with its counts
check_small : check_numbers (check_call (parse small)) ≡ 0 ∷ 0 ∷ 3 ∷ 3 ∷ []
unfolding call_frame call_on_blocks small parse blocks_from block_at instr_total trailer_word
    within_limits trailer_right aligned code_right block_right key_rises count_sum largest within
    even_fields instr_right
check_small = refl
