-- Examples: pages of document 01's three blocks and the calls for them, pages of more rows, and
-- what is no line, or no whole field, computed.
use Rattle.std.specs.Prelude.{ℕ, zero, suc, ◌^◌, ◌≡◌, refl, Bool, false, ◌||◌, length, get_or, drop, replicate}
use Rattle.std.proofs.Common.{sym, ap, ◌∙◌, true≢false, arith, eq-eqb, length-append}
use mathlib.Core.List.Memᴰ
use mathlib.Core.List.{List, [], ◌∷◌, ◌++◌, map, flatten}
use Rattle.std.proofs.Math.Option.{some, some-injective}
use Rattle.call_frame.specs.Answer.{refusal, value}
use Rattle.call_frame.specs.Frame.{Outcome, settle, call_on_blocks, call_frame}
use Rattle.base_fitting.specs.Fitting.{fitting}
use Rattle.base_forest.specs.Roots.{follow}
use Rattle.base_lists.specs.Lists.{among, count}
use Rattle.base_text.specs.Digits.{numeral, last_digits}
use Rattle.base_text.specs.Doc.{Doc, text, dec, ◌▸◌, decimal, hexadecimal8, print, each}
use Rattle.armv4t.specs.declared.Op.TheVariants.{Branch}
use Rattle.file_blocks.specs.Parse.{Block, block_key, Parsed}
use Rattle.plan_search.specs.Target.{target}
use Rattle.plan_exits.specs.Examples.{arm_block, three_blocks}
use Rattle.plan_exits.specs.Exits.{exits, instr_exits}
use Rattle.file_keys.specs.Order.{insert, sort_by_key}
use Rattle.plan_groups.specs.Limit.{part_limit}
use Rattle.plan_groups.specs.Plan.{join_exits, join_blocks, parents, with_root}
use Rattle.plan_groups.specs.Plan.{parts, groups_from, groups, rows_from, plan}
use Rattle.call_pages.specs.Page.{right_in, page_line, block_line, Row, rows_of, row_line}
use Rattle.call_pages.specs.Page.{Page, pages_from, pages, head_line, page_text}
use Rattle.call_pages.specs.Claims.{IsLine, columns, AtRight, AtLeft, Words, FieldsWhole}
use Rattle.call_pages.specs.Claims.{RowWhole, HeadWhole, PagesHold}
use Rattle.call_pages.specs.declared.pages.PagesValues.{PagesValues}
use Rattle.call_pages.specs.Calls.{from_page, fitting_pages, page_call}
use Rattle.call_pages.specs.Calls.{pages_call, page_numbers, pages_numbers}

-- the lines of three blocks
abbrev line_alone : Doc
line_alone = text "08000004      0      1                                          \n"

abbrev line_first : Doc
line_first = text "08000000      1      1 08000008                                 \n"

abbrev line_last : Doc
line_last = text "08000008      1      1                                          \n"

-- heads
abbrev head1 : Doc
head1 = text "                                                               1\n"

abbrev head2 : Doc
head2 = text "                                                               2\n"

-- the only page of three blocks
abbrev one_page : List ℕ
one_page = print (head1 ▸ line_alone ▸ line_first ▸ line_last)

three_blocks_lem : print (each (page_text three_blocks) (pages part_limit three_blocks)) ≡ one_page
unfolding print decimal hexadecimal8 numeral last_digits pages pages_from rows_of page_text row_line
    block_line three_blocks arm_block plan rows_from groups groups_from parts sort_by_key insert with_root
    parents join_blocks join_exits target follow exits instr_exits
three_blocks_lem = refl

-- the largest key, group and count of a file, and two exits
full_line : print (page_line 0xffff_ffff 65535 65535 (0x0800_0001 ∷ 0x0fff_ffff ∷ []))
    ≡ print (text "ffffffff  65535  65535 08000001 0fffffff                        \n")
unfolding print decimal hexadecimal8 numeral last_digits
full_line = refl

-- the columns of a group, and those of exits
group_columns : columns 10 15 (print (page_line 0xffff_ffff 65535 9 [])) ≡ print (text " 65535")
unfolding print decimal hexadecimal8 numeral last_digits
group_columns = refl

exits_columns : columns 24 40 (print (page_line 8 5 9 (0x0800_0001 ∷ [])))
    ≡ print (text "08000001         ")
unfolding print decimal hexadecimal8 numeral last_digits
exits_columns = refl

-- six digits fill a field, and the number of the last page of the largest file is no wider
six_digits : print (right_in 6 (dec 123456)) ≡ print (text "123456")
unfolding print decimal numeral
six_digits = refl

last_head : print (head_line 1093)
    ≡ print (text "                                                            1093\n")
unfolding print decimal numeral
last_head = refl

-- so many rows
abbrev rows_many : ℕ → List Row
rows_many n = replicate n (record { group = 0; block = 0 })

-- the number of each page of so many rows, and how many it has
abbrev shape : ℕ → List (ℕ × ℕ)
shape n = map (λ (p : Page). (p.number, length p.rows)) (pages_from n 1 (rows_many n))

-- sixty make a page; the last has what is left
shape_60 : shape 60 ≡ (1, 60) ∷ []
unfolding pages_from
shape_60 = refl

shape_61 : shape 61 ≡ (1, 60) ∷ (2, 1) ∷ []
unfolding pages_from
shape_61 = refl

shape_121 : shape 121 ≡ (1, 60) ∷ (2, 60) ∷ (3, 1) ∷ []
unfolding pages_from
shape_121 = refl

-- pages are counted from 1, and there is no page 0
from_0 : from_page 0 (pages_from 61 1 (rows_many 61)) ≡ []
from_0 = refl

from_2 : map (λ (p : Page). p.number) (from_page 2 (pages_from 61 1 (rows_many 61))) ≡ 2 ∷ []
unfolding pages_from
from_2 = refl

-- no blocks, no page
no_pages : pages part_limit [] ≡ []
unfolding pages pages_from rows_of plan rows_from groups groups_from
no_pages = refl

-- 63 characters are no line, nor are 65
short_line : IsLine (replicate 63 32 ++ (10 ∷ [])) → ⊥
short_line l =
    omega (arith, ap length l.ended, length-append l.characters (10 ∷ []), l.width)

long_line : IsLine (replicate 65 32 ++ (10 ∷ [])) → ⊥
long_line l =
    omega (arith, ap length l.ended, length-append l.characters (10 ∷ []), l.width)

-- nor are 64 of which one is a newline
broken_line : IsLine (10 ∷ replicate 63 32 ++ (10 ∷ [])) → ⊥
broken_line l =
    go l.characters l.width l.unbroken (ap (λ (s : List ℕ). get_or s 0 0) l.ended)
  where
    go : (cs : List ℕ) → length cs ≡ 64 → among 10 cs ≡ false → 10 ≡ get_or (cs ++ (10 ∷ [])) 0 0 → ⊥
    go [] w u e = omega arith
    go (c ∷ cs) w u e =
        true≢false (sym (ap (λ (b : Bool). b || among 10 cs) (eq-eqb 10 c e)) ∙ u)

-- nor are 65 characters, the last of which is no newline
unended_line : IsLine (replicate 65 32) → ⊥
unended_line l = go 65 l.characters l.ended
  where
    go : (n : ℕ) (cs : List ℕ) → replicate n 32 ≡ cs ++ (10 ∷ []) → ⊥
    go zero cs e = omega (arith, ap length e, length-append cs (10 ∷ []))
    go (suc n) [] e = omega (arith, ap (λ (s : List ℕ). get_or s 0 0) e)
    go (suc n) (c ∷ cs) e = go n cs (ap (drop 1) e)

-- a number of seven digits is not whole in six columns
cut_number : AtRight (decimal 1234567) (columns 10 15 (replicate 9 32 ++ decimal 1234567)) → ⊥
unfolding decimal numeral
cut_number a =
    omega (
      arith,
      ap length a.same,
      length-append {A = ℕ} (replicate a.blanks 32) (decimal 1234567),
    )

-- nor is one at the right where a blank is after it, or a text at the left after a blank
not_right : AtRight (55 ∷ []) (55 ∷ 32 ∷ []) → ⊥
not_right a = go a.blanks a.same
  where
    go : (k : ℕ) → ◌≡◌ {A = List ℕ} (55 ∷ 32 ∷ []) (replicate k 32 ++ (55 ∷ [])) → ⊥
    go zero e = omega (arith, ap length e)
    go (suc k) e = omega (arith, ap (λ (s : List ℕ). get_or s 0 0) e)

not_left : AtLeft (55 ∷ []) (32 ∷ 55 ∷ []) → ⊥
not_left a = omega (arith, ap (λ (s : List ℕ). get_or s 0 0) a.same)

-- nor is a text whole where more than blanks stands before it, or after it
after_more : AtRight (55 ∷ []) (56 ∷ 55 ∷ []) → ⊥
after_more a = go a.blanks a.same
  where
    go : (k : ℕ) → ◌≡◌ {A = List ℕ} (56 ∷ 55 ∷ []) (replicate k 32 ++ (55 ∷ [])) → ⊥
    go zero e = omega (arith, ap length e)
    go (suc k) e = omega (arith, ap (λ (s : List ℕ). get_or s 0 0) e)

before_more : AtLeft (55 ∷ []) (55 ∷ 56 ∷ []) → ⊥
before_more a = go a.blanks a.same
  where
    go : (k : ℕ) → ◌≡◌ {A = List ℕ} (55 ∷ 56 ∷ []) (55 ∷ replicate k 32) → ⊥
    go zero e = omega (arith, ap length e)
    go (suc k) e = omega (arith, ap (λ (s : List ℕ). get_or s 1 0) e)

-- eight digits do not hold 2^32
no_word : Words (2 ^ 32 ∷ []) → ⊥
no_word w = omega (arith, w (2 ^ 32) (Memᴰ.head refl))

-- a block at an address, with a branch to another
abbrev branching : ℕ → ℕ → Block
branching at to = arm_block at (Branch false to)

-- a key of 33 bits is not whole in its eight digits, nor is such an exit
wide_key : FieldsWhole 1 (branching (2 ^ 32) 8)
    (print (text "00000000      1      1 00000008                                 \n"))
    → ⊥
unfolding arm_block
wide_key w = omega (arith, w.keys (2 ^ 32) (Memᴰ.head refl))

wide_exit : FieldsWhole 1 (branching 8 (2 ^ 32))
    (print (text "00000008      1      1 00000000                                 \n"))
    → ⊥
unfolding arm_block exits instr_exits
wide_exit w = omega (arith, w.keys (2 ^ 32) (Memᴰ.tail (Memᴰ.head refl)))

-- a line with the fields of the first of three blocks, in group 1
abbrev Whole : Doc → Type 0
Whole d = FieldsWhole 1 (branching 0x0800_0000 0x0800_0008) (print d)

-- a line that has something else in one place has not these fields
other_key : Whole (text "08000001      1      1 08000008                                 \n") → ⊥
unfolding print hexadecimal8 last_digits arm_block
other_key w = omega (arith, ap (λ (s : List ℕ). get_or s 7 0) w.key)

no_gap_1 : Whole (text "08000000-     1      1 08000008                                 \n") → ⊥
unfolding print
no_gap_1 w = omega (arith, ap (λ (s : List ℕ). get_or s 0 0) w.after_key)

other_group : Whole (text "08000000 111111      1 08000008                                 \n") → ⊥
unfolding print decimal numeral
other_group w = go w.group_whole.blanks w.group_whole.same
  where
    go : (k : ℕ) → print (text "111111") ≡ replicate k 32 ++ decimal 1 → ⊥
    go zero e = omega (arith, ap length e)
    go (suc k) e = omega (arith, ap (λ (s : List ℕ). get_or s 0 0) e)

no_gap_2 : Whole (text "08000000      1-     1 08000008                                 \n") → ⊥
unfolding print
no_gap_2 w = omega (arith, ap (λ (s : List ℕ). get_or s 0 0) w.after_group)

other_count : Whole (text "08000000      1 111111 08000008                                 \n") → ⊥
unfolding print decimal numeral arm_block
other_count w = go w.count_whole.blanks w.count_whole.same
  where
    go : (k : ℕ) → print (text "111111") ≡ replicate k 32 ++ decimal 1 → ⊥
    go zero e = omega (arith, ap length e)
    go (suc k) e = omega (arith, ap (λ (s : List ℕ). get_or s 0 0) e)

no_gap_3 : Whole (text "08000000      1      1-08000008                                 \n") → ⊥
unfolding print
no_gap_3 w = omega (arith, ap (λ (s : List ℕ). get_or s 0 0) w.after_count)

other_exit : Whole (text "08000000      1      1 08000009                                 \n") → ⊥
unfolding print hexadecimal8 last_digits arm_block exits instr_exits
other_exit w = omega (arith, ap (λ (s : List ℕ). get_or s 7 0) w.exits_whole.same)

more_after : Whole (text "08000000      1      1 08000008                                -\n") → ⊥
unfolding print
more_after w = omega (arith, ap (λ (s : List ℕ). get_or s 23 0) w.after_exits)

-- a row's block is the one at its place, even where another has the same line
abbrev same_lines : List Block
same_lines =
    branching 8 8
    ∷ record { addr = 8; thumb = false; code = some []; instrs = (branching 8 8).instrs } ∷ []

row_block : (w : RowWhole same_lines (record { group = 0; block = 0 })) → w.block ≡ branching 8 8
row_block w = sym (some-injective _ _ w.is)

-- 20 digits do not hold 10^20
wide_head : HeadWhole (10 ^ 20) → ⊥
wide_head h = omega (arith, h.small)

-- some rows, each by its group and its block, on one page
abbrev page_of : ℕ → List (ℕ × ℕ) → Page
page_of k rs =
    record { number = k; rows = map (λ (r : ℕ × ℕ). record { group = r.0; block = r.1 }) rs }

-- the rows of three blocks are not their pages with the number 0, nor in another order, nor where
-- one is lost
page_of_0 : PagesHold part_limit three_blocks (page_of 0 ((0, 1) ∷ (1, 0) ∷ (1, 2) ∷ []) ∷ []) → ⊥
page_of_0 h = omega (arith, ap (λ (ks : List ℕ). get_or ks 0 0) h.numbers)

file_order : PagesHold part_limit three_blocks (page_of 1 ((1, 0) ∷ (0, 1) ∷ (1, 2) ∷ []) ∷ []) → ⊥
unfolding flatten three_blocks arm_block plan rows_from groups groups_from parts sort_by_key insert
    with_root parents join_blocks join_exits target follow exits instr_exits
file_order h = omega (arith, ap (λ (ns : List ℕ). get_or ns 0 0) h.order)

row_lost : PagesHold part_limit three_blocks (page_of 1 ((0, 1) ∷ (1, 0) ∷ []) ∷ []) → ⊥
unfolding flatten count three_blocks
row_lost h = omega (arith, h.once 2 (omega arith))

-- nor is a page one of a block with a key of 33 bits
row_wide : PagesHold part_limit (branching (2 ^ 32) 8 ∷ []) (page_of 1 ((0, 0) ∷ []) ∷ []) → ⊥
unfolding arm_block
row_wide h =
    let w = h.lines (page_of 1 ((0, 0) ∷ [])) (Memᴰ.head refl) _ (Memᴰ.head refl) in
    omega (
      arith,
      w.fields.keys (block_key w.block) (Memᴰ.head refl),
      ap block_key (some-injective _ _ w.is),
    )

-- eleven work numbers are too few
page_8 : page_call part_limit 1 (Parsed.accepted three_blocks) (replicate 11 5) []
    ≡ record { answer = refusal 8 0; work = replicate 11 5; results = [] ∷ [] }
unfolding call_frame call_on_blocks three_blocks
page_8 = refl

-- there is no page 0, no second one, and none where there are no blocks
page_9 : page_call part_limit 2 (Parsed.accepted three_blocks) (replicate 13 5) (replicate 300 7)
    ≡ record
    { answer = refusal 9 0; work = replicate 12 0 ++ (5 ∷ []); results = replicate 300 7 ∷ [] }
unfolding call_frame call_on_blocks print decimal hexadecimal8 numeral last_digits pages pages_from
    rows_of page_text row_line block_line three_blocks arm_block plan rows_from groups groups_from parts
    sort_by_key insert with_root parents join_blocks join_exits target follow exits instr_exits
page_9 = refl

page_0 : page_call part_limit 0 (Parsed.accepted three_blocks) (replicate 12 5) (replicate 300 7)
    ≡ record { answer = refusal 9 0; work = replicate 12 0; results = replicate 300 7 ∷ [] }
unfolding call_frame call_on_blocks three_blocks arm_block
page_0 = refl

page_none : page_call part_limit 1 (Parsed.accepted []) (5 ∷ []) (7 ∷ [])
    ≡ record { answer = refusal 9 0; work = 5 ∷ []; results = (7 ∷ []) ∷ [] }
unfolding call_frame call_on_blocks pages pages_from rows_of plan rows_from groups groups_from
page_none = refl

-- the page has 260 bytes: 259 are too few, and in 261 the last one is left
page_10 : page_call part_limit 1 (Parsed.accepted three_blocks) (replicate 12 5) (replicate 259 7)
    ≡ record { answer = refusal 10 0; work = replicate 12 0; results = replicate 259 7 ∷ [] }
unfolding call_frame call_on_blocks print decimal hexadecimal8 numeral last_digits pages pages_from
    rows_of page_text row_line block_line three_blocks arm_block plan rows_from groups groups_from parts
    sort_by_key insert with_root parents join_blocks join_exits target follow exits instr_exits
page_10 = refl

page_made : page_call part_limit 1 (Parsed.accepted three_blocks) (replicate 12 5) (replicate 261 7)
    ≡ record
    { answer = value 260; work = replicate 12 0; results = (one_page ++ (7 ∷ [])) ∷ [] }
unfolding call_frame call_on_blocks print decimal hexadecimal8 numeral last_digits pages pages_from
    rows_of page_text row_line block_line three_blocks arm_block plan rows_from groups groups_from parts
    sort_by_key insert with_root parents join_blocks join_exits target follow exits instr_exits
page_made = refl

-- the pages from the first on, in a text that is exactly full
pages_made : pages_call part_limit 1 (Parsed.accepted three_blocks) (replicate 12 5) (replicate 260 7)
    ≡ record {
      answer = value (record { count = 1; length = 260 });
      work = replicate 12 0;
      results = one_page ∷ [];
    }
unfolding call_frame call_on_blocks print decimal hexadecimal8 numeral last_digits pages pages_from
    rows_of page_text row_line block_line three_blocks arm_block plan rows_from groups groups_from parts
    sort_by_key insert with_root parents join_blocks join_exits target follow exits instr_exits fitting
pages_made = refl

-- two pages, of one row and of two
abbrev two_pages : List Page
two_pages =
    record { number = 1; rows = record { group = 0; block = 1 } ∷ [] }
    ∷ record {
      number = 2;
      rows = record { group = 1; block = 0 } ∷ record { group = 1; block = 2 } ∷ [];
    }
    ∷ []

-- what the call for pages leaves of some pages, by a text
abbrev leaves : List Page → List ℕ → Outcome PagesValues
leaves ps lent = settle (fitting_pages three_blocks (length lent ∷ []) ps) [] (lent ∷ [])

-- there is none
pages_9 : leaves [] (7 ∷ []) ≡ record { answer = refusal 9 0; work = []; results = (7 ∷ []) ∷ [] }
pages_9 = refl

-- a byte is missing for the first; the second would fit as little
pages_10 : leaves two_pages (replicate 129 7)
    ≡ record { answer = refusal 10 0; work = []; results = replicate 129 7 ∷ [] }
unfolding fitting print decimal hexadecimal8 numeral last_digits page_text row_line block_line
    three_blocks arm_block exits instr_exits
pages_10 = refl

-- a byte is missing for the second
pages_one : leaves two_pages (replicate 324 7)
    ≡ record {
      answer = value (record { count = 1; length = 130 });
      work = [];
      results = (print (head1 ▸ line_alone) ++ replicate 194 7) ∷ [];
    }
unfolding fitting print decimal hexadecimal8 numeral last_digits page_text row_line block_line
    three_blocks arm_block exits instr_exits
pages_one = refl

-- both fit, and a byte is left
pages_two : leaves two_pages (replicate 326 7)
    ≡ record {
      answer = value (record { count = 2; length = 325 });
      work = [];
      results =
          (print (head1 ▸ line_alone ▸ head2 ▸ line_first ▸ line_last) ++ (7 ∷ []))
          ∷ [];
    }
unfolding fitting print decimal hexadecimal8 numeral last_digits page_text row_line block_line
    three_blocks arm_block exits instr_exits
pages_two = refl

-- the numbers handed over: what is returned, i, and the values, which are 0 on refusal
page_numbers_lem : (page_numbers (record { answer = value 260; work = []; results = [] })).numbers
    ≡ 0 ∷ 0 ∷ 260 ∷ []
page_numbers_lem = refl

pages_numbers_lem : (pages_numbers
    (record { answer = value (record { count = 2; length = 325 }); work = []; results = [] })
    ).numbers
    ≡ 0 ∷ 0 ∷ 2 ∷ 325 ∷ []
pages_numbers_lem = refl

pages_refused : (pages_numbers (record { answer = refusal 4 2; work = []; results = [] })).numbers
    ≡ 4 ∷ 2 ∷ 0 ∷ 0 ∷ []
pages_refused = refl
