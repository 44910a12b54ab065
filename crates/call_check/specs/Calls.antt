-- To be believed: the public call for the check of a file. It is lent nothing.
use Rattle.std.specs.Prelude.{ℕ, List, [], ◌∷◌, length}
use Rattle.std.proofs.Math.Option.{none}
use Rattle.call_frame.specs.Answer.{Answer}
use Rattle.file_blocks.specs.Parse.{Block, Parsed, instr_total}
use Rattle.file_blocks.specs.declared.refusal.Counts.{Counts}
use Rattle.call_frame.specs.Frame.{Call, makes, call_frame}
use Rattle.call_frame.specs.Numbers.{numbers_of}

-- what it makes: how many blocks and instructions there are
abbrev pub asks_check : Call Counts
asks_check =
    record {
      early = none;
      per_block = 0;
      own = λ (bs : List Block) (rooms : List ℕ).
          makes (record { blocks = length bs; instructions = instr_total bs }) [];
    }

-- the call for the check of a file
abbrev pub check_call : Parsed → Answer Counts
check_call p = (call_frame asks_check p [] []).answer

-- its numbers: after those of every answer the blocks and the instructions
abbrev pub check_numbers : Answer Counts → List ℕ
check_numbers = numbers_of 2 (λ (c : Counts). c.blocks ∷ c.instructions ∷ [])
