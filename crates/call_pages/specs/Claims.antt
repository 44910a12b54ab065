-- To be believed: what is claimed of the pages of an accepted file (document 02, request 1): each
-- line has its width, no field is cut, and the pages hold each block of the plan once, in emission
-- order.
use Rattle.std.specs.Prelude.{ℕ, suc, ◌-◌, ◌<◌, ◌^◌, ◌≡◌, false, length, take, drop, replicate}
use mathlib.Core.List.{List, [], ◌∷◌, ◌++◌, map, flatten, Memᴰ}
use Rattle.std.proofs.Math.Option.{some}
use Rattle.std.proofs.Math.ListN.{get_elem?}
use Rattle.base_lists.specs.Lists.{range, among, count}
use Rattle.base_text.specs.Doc.{decimal, hexadecimal8, print}
use Rattle.file_blocks.specs.Parse.{Block, block_key, AcceptedAs}
use Rattle.plan_exits.specs.Exits.{exits}
use Rattle.plan_groups.specs.Plan.{plan}
use Rattle.call_pages.specs.Page.{keys_text, Row, row_line, Page, pages, head_line, page_text}

-- a line: 64 characters, none of which is a newline, and a newline
pub record IsLine (bytes : List ℕ) : Type 0 where
  pub characters : List ℕ
  pub width : length characters ≡ 64
  pub unbroken : among 10 characters ≡ false
  pub ended : bytes ≡ characters ++ (10 ∷ [])

-- the characters of a line from one column to another, both included; columns count from 1
abbrev pub columns : ℕ → ℕ → List ℕ → List ℕ
columns first last line = take (suc last - first) (drop (first - 1) line)

-- a text stands whole in a field, after nothing but blanks
pub record AtRight (text field : List ℕ) : Type 0 where
  pub blanks : ℕ
  pub same : field ≡ replicate blanks 32 ++ text

-- a text stands whole in a field, before nothing but blanks
pub record AtLeft (text field : List ℕ) : Type 0 where
  pub blanks : ℕ
  pub same : field ≡ text ++ replicate blanks 32

-- every number is below 2^32, so that eight digits hold it
abbrev pub Words : List ℕ → Type 0
Words ks = (k : ℕ) → Memᴰ k ks → k < 2 ^ 32

-- the fields of a block's line, each whole in its columns, and blanks between and after them
pub record FieldsWhole (group : ℕ) (b : Block) (line : List ℕ) : Type 0 where
  pub keys : Words (block_key b ∷ exits b)
  pub key : columns 1 8 line ≡ hexadecimal8 (block_key b)
  pub after_key : columns 9 9 line ≡ 32 ∷ []
  pub group_whole : AtRight (decimal group) (columns 10 15 line)
  pub after_group : columns 16 16 line ≡ 32 ∷ []
  pub count_whole : AtRight (decimal (length b.instrs)) (columns 17 22 line)
  pub after_count : columns 23 23 line ≡ 32 ∷ []
  pub exits_whole : AtLeft (print (keys_text (exits b))) (columns 24 40 line)
  pub after_exits : columns 41 64 line ≡ replicate 24 32

-- a row names a block, and its text is a line with the fields of that block
pub record RowWhole (bs : List Block) (r : Row) : Type 0 where
  pub block : Block
  pub is : get_elem? bs r.block ≡ some block
  pub line : IsLine (print (row_line bs r))
  pub fields : FieldsWhole r.group block (print (row_line bs r))

-- the head of a page is a line, with the number of the page whole at its right; 20 digits hold it
pub record HeadWhole (k : ℕ) : Type 0 where
  pub small : k < 10 ^ 20
  pub line : IsLine (print (head_line k))
  pub number : AtRight (decimal k) (columns 1 64 (print (head_line k)))

-- the two numbers that the plan has for a row
abbrev pub row_numbers : Row → List ℕ
row_numbers r = r.group ∷ r.block ∷ []

-- the rows of some pages, one page after another
abbrev pub rows_on : List Page → List Row
rows_on ps = flatten (map (λ (p : Page). p.rows) ps)

-- what is claimed of pages, as those of some blocks, grouped by a limit
pub record PagesHold (limit : ℕ) (bs : List Block) (ps : List Page) : Type 0 where
  -- they are counted from 1
  pub numbers : map (λ (p : Page). p.number) ps ≡ range (length ps) 1
  -- the text of each is its head and the lines of its rows, one after another
  pub texts : (p : Page) → Memᴰ p ps
      → print (page_text bs p)
      ≡ print (head_line p.number) ++ flatten (map (λ (r : Row). print (row_line bs r)) p.rows)
  -- each head and each of these lines has its width, and no field of it is cut
  pub heads : (p : Page) → Memᴰ p ps → HeadWhole p.number
  pub lines : (p : Page) → Memᴰ p ps → (r : Row) → Memᴰ r p.rows
      → RowWhole bs r
  -- the rows are those of the plan, in its order
  pub order : flatten (map row_numbers (rows_on ps)) ≡ plan limit bs
  -- each block has one of them
  pub once : (i : ℕ) → i < length bs
      → count i (map (λ (r : Row). r.block) (rows_on ps)) ≡ 1

-- the pages of a file are such, where it is accepted
abbrev pub PageClaims : ℕ → List ℕ → Type 0
PageClaims limit f = (bs : List Block) → AcceptedAs f bs → PagesHold limit bs (pages limit bs)
