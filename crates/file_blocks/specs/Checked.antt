-- Steps: what a pass over a file answers, and what the check of it does.
use Rattle.std.proofs.Math.Option.{Option, none, some}
use Rattle.std.specs.Prelude.{ℕ, List, length, Result, Ok, Err}
use Rattle.file_blocks.specs.declared.refusal.Counts.{Counts}
use Rattle.file_blocks.specs.declared.rule.Rule.{Rule}
use Rattle.file_blocks.specs.Refusal.{first_broken, rules}
use Rattle.file_blocks.specs.Parse.{Block, blocks_of, instr_total}

-- the first broken rule ends a pass over the file
abbrev pub passed : Option Rule → Result Unit Rule
passed none = Ok tt
passed (some r) = Err r

-- how many blocks and instructions there are
abbrev pub counts_of : List Block → Counts
counts_of bs = record { blocks = length bs; instructions = instr_total bs }

-- a file as the answer of the check, by the first rule that it breaks
abbrev pub answered : List ℕ → Option Rule → Result Counts Rule
answered f none = Ok (counts_of (blocks_of f))
answered f (some r) = Err r

-- the first rule that a file breaks, or its counts
unfoldable pub checked : List ℕ → Result Counts Rule
checked f = answered f (first_broken f (rules f))
