-- To be believed: that a goto leads where LabelIn says, and nowhere else: in the functions of the
-- units a label stands in one place at most, and inside no braces.
use Rattle.std.specs.Prelude.{ℕ, ◌≡◌, ◌⊎◌}
use mathlib.Core.List.{List, Memᴰ}
use Rattle.file_blocks.specs.Parse.{Block, AcceptedAs}
use Rattle.c_tree.specs.Stmt.{Code, block, group, function}
use Rattle.lower_units.specs.Units.{TranslationUnit, units}
use Rattle.claim_ways.specs.Ways.{LabelAt}
use Rattle.claim_functions.specs.Execution.{LabelIn}

-- of a file, if it is accepted: every unit, and every function of a block or of a group in it; where
-- there is a place with a label, at any depth, it is inside no braces, and each place with that
-- label inside no braces has the same code after it, so that there is but one. That a goto finds
-- its label is not said here
unfoldable pub LabelsPlain : ℕ → ℕ → ℕ → List ℕ → Type 0
LabelsPlain multiplier limit max f =
    (bs : List Block) → AcceptedAs f bs → (u : TranslationUnit)
    → Memᴰ u (units multiplier limit max bs)
    → (h : ℕ) (c : Code)
    → Memᴰ (function (block h) c) u.tree ⊎ Memᴰ (function (group h) c) u.tree
    → (k : ℕ) (d : Code) → LabelAt k c d → LabelIn k c d × ((e : Code) → LabelIn k c e → e ≡ d)
