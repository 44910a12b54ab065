-- To be believed: the listing of a file: a header, and one line for each block in file order.
use Rattle.std.specs.Prelude.{ℕ, suc, List, [], ◌∷◌}
use Rattle.file_blocks.specs.Parse.{Block, block_key}
use Rattle.base_text.specs.Doc.{Doc, nothing, text, dec, hex8, ◌▸◌, each}
use Rattle.plan_exits.specs.Exits.{exits}
use Rattle.plan_groups.specs.Plan.{plan, group_of}

-- the exits of a line: each key with a space before it, or a space and `-` if there is none
abbrev pub exits_text : List ℕ → Doc
exits_text [] = text " -"
exits_text (k ∷ ks) = each (λ (l : ℕ). text " " ▸ hex8 l) (k ∷ ks)

-- a line: key, group, exits
abbrev pub line : ℕ → ℕ → List ℕ → Doc
line key group keys = hex8 key ▸ text " " ▸ dec group ▸ exits_text keys ▸ text "\n"

-- the line of a block
unfoldable pub block_line : ℕ → Block → Doc
block_line group b = line (block_key b) group (exits b)

-- the lines of blocks counted from i
unfoldable pub lines_from : List ℕ → ℕ → List Block → Doc
lines_from rows i [] = nothing
lines_from rows i (b ∷ bs) = block_line (group_of i rows) b ▸ lines_from rows (suc i) bs

-- the listing of some blocks, grouped by a limit
unfoldable pub listing : ℕ → List Block → Doc
listing limit bs = text "key group exits\n" ▸ lines_from (plan limit bs) 0 bs
