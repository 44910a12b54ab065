-- To be believed: the plan on pages of paper (document 02, request 1): a line for each block, sixty
-- blocks on a page.
use Rattle.std.specs.Prelude.{ℕ, zero, suc, ◌-◌, cond, List, [], ◌∷◌, map, length, get_or, take, drop}
use Rattle.base_lists.specs.Lists.{is_empty}
use Rattle.base_text.specs.Doc.{Doc, nothing, text, dec, hex8, ◌▸◌, print, each, spaces}
use Rattle.file_blocks.specs.Parse.{Block, block_key}
use Rattle.plan_exits.specs.Exits.{exits}
use Rattle.plan_groups.specs.Plan.{plan}

-- a text at the left of a field, with blanks after it up to the field's width; a wider text is not
-- cut
abbrev pub left_in : ℕ → Doc → Doc
left_in width d = d ▸ spaces (width - length (print d))

-- a text at the right of a field, with blanks before it; a wider text is not cut
abbrev pub right_in : ℕ → Doc → Doc
right_in width d = spaces (width - length (print d)) ▸ d

-- keys, with one blank between two of them
abbrev pub keys_text : List ℕ → Doc
keys_text [] = nothing
keys_text (k ∷ ks) = hex8 k ▸ each (λ (l : ℕ). text " " ▸ hex8 l) ks

-- a line: key, group and instruction count, the exits from column 24 to column 40, and blanks up to
-- column 64
abbrev pub page_line : ℕ → ℕ → ℕ → List ℕ → Doc
page_line key group count keys =
    hex8 key
    ▸ text " "
    ▸ right_in 6 (dec group)
    ▸ text " "
    ▸ right_in 6 (dec count)
    ▸ text " "
    ▸ left_in 17 (keys_text keys)
    ▸ spaces 24
    ▸ text "\n"

-- the line of a block of a group
unfoldable pub block_line : ℕ → Block → Doc
block_line group b = page_line (block_key b) group (length b.instrs) (exits b)

-- a row of the plan: the numbers of a group and of a block
pub record Row : Type 0 where
  pub group : ℕ
  pub block : ℕ

-- the rows of a plan, which has two numbers for each
unfoldable pub rows_of : List ℕ → List Row
rows_of [] = []
rows_of (g ∷ []) = []
rows_of (g ∷ i ∷ rest) = record { group = g; block = i } ∷ rows_of rest

-- the line of a row; a number that no block has would have none
unfoldable pub row_line : List Block → Row → Doc
row_line bs r = get_or (map (block_line r.group) bs) r.block nothing

-- a page: its number, and its rows
pub record Page : Type 0 where
  pub number : ℕ
  pub rows : List Row

-- so many blocks make a page
abbrev pub per_page : ℕ
per_page = 60

-- the pages of some rows, of which the first is page k: sixty rows on each, and on the last those
-- that are left; m is at least the number of these pages
unfoldable pub pages_from : ℕ → ℕ → List Row → List Page
pages_from zero k rows = []
pages_from (suc m) k rows =
    cond (is_empty rows) []
    (record { number = k; rows = take per_page rows } ∷ pages_from m (suc k) (drop per_page rows))

-- the pages of some blocks, grouped by a limit, from page 1 on; they are no more than the rows
unfoldable pub pages : ℕ → List Block → List Page
pages limit bs = pages_from (length (rows_of (plan limit bs))) 1 (rows_of (plan limit bs))

-- the head of a page: its number at the right of a line
abbrev pub head_line : ℕ → Doc
head_line k = right_in 64 (dec k) ▸ text "\n"

-- the text of a page: its head, and the line of each row
unfoldable pub page_text : List Block → Page → Doc
page_text bs p = head_line p.number ▸ each (row_line bs) p.rows

-- how long that is
abbrev pub page_length : List Block → Page → ℕ
page_length bs p = length (print (page_text bs p))
