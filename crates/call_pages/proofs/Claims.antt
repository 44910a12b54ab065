-- What is claimed of pages.
-- Assumes nothing.
use Prim.Native.Nat.{ℕ, zero, suc, ◌+◌, ◌*◌, ◌^◌, ◌≤◌, ◌<◌}
use mathlib.Core.Path.{◌≡◌, refl, sym, ap, ◌∙◌, subst}
use mathlib.Core.Bool.{Bool, true, false}
use mathlib.Core.List.{List, [], ◌∷◌, ◌++◌, map, flatten, Memᴰ}
use mathlib.Core.Logic.{◌⊎◌, inl, inr}
use mathlib.Core.Option.{some}
use native.Mathlib.Nat.{le_of_suc-le-suc}
use native.Mathlib.Omega.{arith}
use lib.ListN.{length, get_elem?}
use Rattle.armv4t.specs.Instr.{size_of}
use Rattle.base_lists.specs.Lists.{range, count}
use Rattle.base_lists.proofs.Places.{member_at, found_at, map_at}
use Rattle.base_text.specs.Doc.{Doc, nothing, dec, decimal, print, each}
use Rattle.base_text.proofs.Lengths.{length_most}
use Rattle.file_records.specs.BlockRecord.{key_plus}
use Rattle.file_blocks.specs.Parse.{Block, block_key, AcceptedAs}
use Rattle.file_blocks.proofs.Accepted.{length_of_lem, few_blocks}
use Rattle.file_blocks.proofs.Ranges.{accepted_some, accepted_few, accepted_end}
use Rattle.plan_exits.specs.Exits.{exits}
use Rattle.plan_exits.proofs.Few.{exits_few}
use Rattle.plan_exits.proofs.Words.{exits_words}
use Rattle.plan_groups.specs.Plan.{plan}
use Rattle.call_pages.specs.Page.{block_line, Row, rows_of, row_line, Page, pages}
use Rattle.call_pages.specs.Page.{head_line, page_text}
use Rattle.call_pages.specs.Claims.{IsLine, AtRight, AtLeft, Words, FieldsWhole, RowWhole}
use Rattle.call_pages.specs.Claims.{HeadWhole, row_numbers, PageClaims}
use Rattle.call_pages.proofs.Fields.{line_line, key_at_lem, gap_1, group_at, gap_2, count_at}
use Rattle.call_pages.proofs.Fields.{gap_3, exits_at, blanks_at, at_right, at_left}
use Rattle.call_pages.proofs.Fields.{head_line_lem, head_number}
use Rattle.call_pages.proofs.Blanks.{print_spaces}
use Rattle.call_pages.proofs.Rows.{block_in, rows_all, rows_once}
use Rattle.call_pages.proofs.Rows.{rows_numbers, row_inside, row_group}
use Rattle.call_pages.proofs.Paging.{pages_rows, pages_numbers_lem, pages_few}
use Rattle.call_pages.proofs.Paging.{page_inside}

-- what stands at a place of a list is found there
found : {A : Type 0} (xs : List A) (i : ℕ) → i < length xs → (x : A) × (get_elem? xs i ≡ some x)
found [] i h = absurd (omega arith)
found (x ∷ xs) zero h = (x, refl)
found (x ∷ xs) (suc i) h = found xs i (le_of_suc-le-suc h)

-- a key of 32 bits, where the block's end is not past 2^32
key_word : (addr n : ℕ) (thumb : Bool) → 1 ≤ n → addr + n * size_of thumb ≤ 2 ^ 32
    → key_plus addr thumb < 2 ^ 32
key_word addr n true any end = omega arith
key_word addr n false any end = omega arith

module _ (f : List ℕ) (bs : List Block) (ok : AcceptedAs f bs) where
  -- the line of a block
  module _ (group : ℕ) (small : group < length bs) (b : Block) (m : Memᴰ b bs) where
    few : group < 1000000
    few = omega (arith, length_of_lem f bs ok, few_blocks f bs ok)

    instrs : length b.instrs < 1000000
    instrs = omega (arith, accepted_few f bs ok b m)

    keys : Words (block_key b ∷ exits b)
    keys k at = go (mathlib.Core.List.Memᴰ.cases_cons at)
      where
        go : (k ≡ block_key b) ⊎ Memᴰ k (exits b) → k < 2 ^ 32
        go (inl e) =
            omega (
              arith,
              key_word b.addr (length b.instrs) b.thumb (accepted_some f bs ok b m)
                  (accepted_end f bs ok b m),
            )
        go (inr l) = exits_words f bs ok b m k l

    block_line_lem : IsLine (print (block_line group b))
    unfolding block_line
    block_line_lem =
        line_line (block_key b) group (length b.instrs) (exits b) few instrs (exits_few b)

    block_fields : FieldsWhole group b (print (block_line group b))
    unfolding block_line
    block_fields =
        record {
          keys = keys;
          key = key_at_lem (block_key b) group (length b.instrs) (exits b) few instrs (exits_few b);
          after_key =
              gap_1 (block_key b) group (length b.instrs) (exits b) few instrs (exits_few b);
          group_whole =
              subst (AtRight _)
              (sym (group_at (block_key b) group (length b.instrs) (exits b) few instrs
              (exits_few b))) (at_right 6 group);
          after_group =
              gap_2 (block_key b) group (length b.instrs) (exits b) few instrs (exits_few b);
          count_whole =
              subst (AtRight _)
              (sym (count_at (block_key b) group (length b.instrs) (exits b) few instrs
              (exits_few b))) (at_right 6 (length b.instrs));
          after_count =
              gap_3 (block_key b) group (length b.instrs) (exits b) few instrs (exits_few b);
          exits_whole =
              subst (AtLeft _)
              (sym (exits_at (block_key b) group (length b.instrs) (exits b) few instrs
              (exits_few b))) (at_left 17 _);
          after_exits =
              blanks_at (block_key b) group (length b.instrs) (exits b) few instrs (exits_few b)
              ∙ print_spaces 24;
        }

  -- the line of a row
  pub row_whole : (limit : ℕ) (r : Row) → Memᴰ r (rows_of (plan limit bs)) → RowWhole bs r
  unfolding row_line
  row_whole limit r at =
      let b = found bs r.block (row_inside limit bs r at) in
      let is = found_at bs r.block b.0 b.0 b.1 in
      let line : block_line r.group b.0 ≡ row_line bs r =
      sym (map_at (block_line r.group) bs r.block b.0 nothing is.0
      ∙ ap (block_line r.group) is.1) in
      let m : Memᴰ b.0 bs =
      subst (λ (c : Block). Memᴰ c bs) is.1 (member_at bs r.block b.0 is.0) in
      record {
        block = b.0;
        is = b.1;
        line =
            subst (λ (d : Doc). IsLine (print d)) line
            (block_line_lem r.group (row_group limit bs r at) b.0 m);
        fields =
            subst (λ (d : Doc). FieldsWhole r.group b.0 (print d)) line
            (block_fields r.group (row_group limit bs r at) b.0 m);
      }

-- the head of a page
pub head_whole : (k : ℕ) → k < 10 ^ 20 → HeadWhole k
unfolding print
head_whole k h =
    let short : length (decimal k) ≤ 64 = omega (arith, length_most (dec k)) in
    record { small = h; line = head_line_lem k short; number = head_number k short }

-- the texts of some rows, one after another
rows_text : (bs : List Block) (rs : List Row)
    → print (each (row_line bs) rs) ≡ flatten (map (λ (r : Row). print (row_line bs r)) rs)
unfolding print flatten
rows_text bs [] = refl
rows_text bs (r ∷ rs) = ap (λ (s : List ℕ). print (row_line bs r) ++ s) (rows_text bs rs)

page_text_lem : (bs : List Block) (p : Page) → print (page_text bs p)
    ≡ print (head_line p.number) ++ flatten (map (λ (r : Row). print (row_line bs r)) p.rows)
unfolding print page_text
page_text_lem bs p = ap (λ (s : List ℕ). print (head_line p.number) ++ s) (rows_text bs p.rows)

-- a number of a page is no larger than the number of pages
in_range : (n j k : ℕ) → Memᴰ k (range n j) → k < j + n
in_range zero j k m = absurd (mathlib.Core.List.Memᴰ.not-nil m)
in_range (suc n) j k m = go (in_range n (suc j) k) (mathlib.Core.List.Memᴰ.cases_cons m)
  where
    go : (Memᴰ k (range n (suc j)) → k < suc j + n) → (k ≡ j) ⊎ Memᴰ k (range n (suc j))
        → k < j + suc n
    go rest (inl e) = omega arith
    go rest (inr l) = omega (arith, rest l)

number_small : (limit : ℕ) (bs : List Block) → length bs ≤ 65536 → (p : Page)
    → Memᴰ p (pages limit bs) → p.number < 10 ^ 20
number_small limit bs few p at =
    omega (
      arith,
      pages_few limit bs,
      rows_all limit bs,
      in_range (length (pages limit bs)) 1 p.number
          (subst (Memᴰ p.number) (pages_numbers_lem limit bs)
          (mathlib.Core.List.Memᴰ.map (λ (q : Page). q.number) at)),
    )

-- what is claimed of the pages of every file
pub page_claims : (limit : ℕ) (f : List ℕ) → PageClaims limit f
page_claims limit f bs ok =
    record {
      numbers = pages_numbers_lem limit bs;
      texts = λ p at. page_text_lem bs p;
      heads =
          λ p at.
          head_whole p.number
          (number_small limit bs (omega (arith, length_of_lem f bs ok, few_blocks f bs ok)) p at);
      lines = λ p at r m. row_whole f bs ok limit r (page_inside limit bs p at r m);
      order = ap (λ (rs : List Row). flatten (map row_numbers rs)) (pages_rows limit bs)
          ∙ rows_numbers limit bs;
      once = λ i h.
          ap (λ (rs : List Row). count i (map block_in rs)) (pages_rows limit bs)
          ∙ rows_once limit bs i h;
    }
