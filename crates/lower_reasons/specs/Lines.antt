-- To be believed: the sentences of a file as lines, each with the number of its instruction.
use Rattle.std.specs.Prelude.{ℕ, suc, List, [], ◌∷◌, length, drop}
use Rattle.std.proofs.Math.Option.{Option, none, some}
use Rattle.base_text.specs.Doc.{Doc, text, ◌▸◌, print}
use Rattle.file_blocks.specs.Parse.{Block}
use Rattle.lower_reasons.specs.Said.{Said, said_in_all}
use Rattle.lower_reasons.specs.Sentence.{sentence}

-- a line: the number of an instruction in its file, and what is said of it
pub record Line : Type 0 where
  pub number : ℕ
  pub said : Said

-- its text: the sentence, and a newline
abbrev pub line_text : Line → Doc
line_text l = sentence l.said ▸ text "\n"

-- how long that is
abbrev pub line_length : Line → ℕ
line_length l = length (print (line_text l))

-- the lines of what is said of instructions, the first of which has number n
unfoldable pub lines_of : ℕ → List (Option Said) → List Line
lines_of n [] = []
lines_of n (none ∷ os) = lines_of (suc n) os
lines_of n (some s ∷ os) = record { number = n; said = s } ∷ lines_of (suc n) os

-- the lines of some blocks from instruction n on
abbrev pub lines_from : ℕ → List Block → List Line
lines_from n bs = lines_of n (drop n (said_in_all bs))

-- the number of the first of some lines, or n where there is none
abbrev pub number_or : ℕ → List Line → ℕ
number_or n [] = n
number_or n (l ∷ ls) = l.number
