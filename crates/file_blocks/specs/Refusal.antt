-- To be believed: the refusal table of a file, its rules in the order of their places, and the
-- first that is broken. A rule at one place of the file is a `Rule` of the code.
use Rattle.std.specs.Prelude.{ℕ, zero, suc, Bool, not, List, [], ◌∷◌, ◌++◌, ◌==◌}
use Rattle.std.proofs.Math.Option.{Option}
use Rattle.base_lists.specs.Lists.{first_of, IsFirst}
use Rattle.file_records.specs.Trailer.{has_trailer, within_limits, trailer_right, block_count}
use Rattle.file_records.specs.Trailer.{instr_count, block_start, instr_start}
use Rattle.file_records.specs.BlockRecord.{block_right, key_rises, count_sum}
use Rattle.file_instrs.specs.InstrRecord.{instr_right}
use Rattle.file_blocks.specs.declared.rule.Rule.{Rule}

-- the number of a rule's refusal
abbrev pub number : Rule → ℕ
number Rule.Short = 1
number Rule.Limits = 2
number Rule.Trailer = 3
number (Rule.Block i) = 4
number (Rule.Order i) = 5
number Rule.Sum = 6
number (Rule.Instr i) = 7

-- i of a rule's refusal, or 0 where there is none
abbrev pub place : Rule → ℕ
place Rule.Short = 0
place Rule.Limits = 0
place Rule.Trailer = 0
place (Rule.Block i) = i
place (Rule.Order i) = i
place Rule.Sum = 0
place (Rule.Instr i) = i

-- whether a rule is broken in a file
abbrev pub broken : List ℕ → Rule → Bool
broken f Rule.Short = not (has_trailer f)
broken f Rule.Limits = not (within_limits f)
broken f Rule.Trailer = not (trailer_right f)
broken f (Rule.Block i) = not (block_right f (block_start f i))
broken f (Rule.Order i) = not (key_rises f i)
broken f Rule.Sum = not (count_sum f (block_count f) == instr_count f)
broken f (Rule.Instr i) = not (instr_right f (instr_start f i))

-- the rules of n blocks from block i on: each record's, then its key's
abbrev pub block_rules : ℕ → ℕ → List Rule
block_rules zero i = []
block_rules (suc n) i = Rule.Block i ∷ Rule.Order i ∷ block_rules n (suc i)

-- the rules of n instructions from instruction i on
abbrev pub instr_rules : ℕ → ℕ → List Rule
instr_rules zero i = []
instr_rules (suc n) i = Rule.Instr i ∷ instr_rules n (suc i)

-- all rules in the table's order
abbrev pub rules : List ℕ → List Rule
rules f =
    Rule.Short ∷ Rule.Limits ∷ Rule.Trailer
    ∷ block_rules (block_count f) 0 ++ (Rule.Sum ∷ instr_rules (instr_count f) 0)

-- the first broken one of some rules
abbrev pub first_broken : List ℕ → List Rule → Option Rule
first_broken f = first_of (broken f)

-- the table gives a rule's refusal: the rule is the first broken one of the file
abbrev pub Applies : List ℕ → Rule → Type 0
Applies f r = IsFirst (broken f) (rules f) r
