-- The pages that are written one after another, as long as they fit.
-- Assumes nothing.
use Prim.Native.Nat.{ℕ, suc, ◌+◌, ◌*◌, ◌-◌, ◌≤◌, ◌<◌, min}
use mathlib.Core.Path.{◌≡◌, refl, sym, ap, ap₂, ◌∙◌, subst}
use mathlib.Core.List.{List, [], ◌∷◌, ◌++◌, append_assoc, Memᴰ}
use native.Mathlib.Omega.{arith}
use lib.ListN.{length, drop, length-append, length-drop, drop_of_length-le}
use lib.Seq.{drop-drop}
use Rattle.base_fitting.specs.Fitting.{fitting}
use Rattle.base_fitting.specs.Steps.{total, FitSoFar}
use Rattle.base_fitting.proofs.Laws.{fit_none, fit_more, fit_over, fit_all, total_more}
use Rattle.base_text.specs.Doc.{dec, print, each}
use Rattle.base_text.specs.Wrote.{Wrote}
use Rattle.base_text.proofs.Laws.{none, seq, wrote_as, each_append, whole}
use Rattle.base_text.proofs.Lengths.{length_most}
use Rattle.file_blocks.specs.Parse.{Block, blocks_of}
use Rattle.plan_groups.specs.Plan.{plan}
use Rattle.plan_members.specs.Prepared.{HoldsPlan}
use Rattle.call_pages.specs.Page.{Row, rows_of, row_line, Page, per_page, pages_from, page_text}
use Rattle.call_pages.specs.Page.{head_line, page_length}
use Rattle.call_pages.specs.Claims.{IsLine, RowWhole}
use Rattle.call_pages.specs.Steps.{page_on, Begins, pages_asked, PutPages}
use Rattle.call_pages.proofs.Claims.{row_whole}
use Rattle.call_pages.proofs.Fields.{head_line_lem}
use Rattle.call_pages.proofs.Paging.{pages_none, first_page, page_rows, page_on_inside}
use Rattle.call_pages.proofs.Paging.{asked_some}
use Rattle.call_pages.proofs.Rows.{rows_n}

-- a line has 65 bytes
line_length_lem : {s : List ℕ} → IsLine s → length s ≡ 65
line_length_lem l =
    omega (arith, l.width, ap length l.ended, length-append l.characters (10 ∷ []))

lines_length : (bs : List Block) (rs : List Row) → ((r : Row) → Memᴰ r rs → RowWhole bs r)
    → length (print (each (row_line bs) rs)) ≡ 65 * length rs
unfolding print
lines_length bs [] h = refl
lines_length bs (r ∷ rs) h =
    omega (
      arith,
      length-append (print (row_line bs r)) (print (each (row_line bs) rs)),
      line_length_lem (h r (Memᴰ.head refl)).line,
      lines_length bs rs (λ s m. h s (Memᴰ.tail m)),
    )

-- the texts of some pages, by their lengths
pub total_texts : (bs : List Block) (ps : List Page)
    → total (page_length bs) ps ≡ length (print (each (page_text bs) ps))
unfolding total print
total_texts bs [] = refl
total_texts bs (p ∷ ps) =
    omega (
      arith,
      total_texts bs ps,
      length-append (print (page_text bs p)) (print (each (page_text bs) ps)),
    )

module _ {f : List ℕ} {n limit : ℕ} {work : List ℕ} (ready : HoldsPlan f n limit work) where
  abbrev bs : List Block
  bs = blocks_of f

  abbrev rows : List Row
  rows = rows_of (plan limit bs)

  -- how long the page is that begins at row p
  pub page_size : (k p : ℕ) → page_length (blocks_of f) (page_on limit (blocks_of f) k p)
      ≡ 65 * (1 + min per_page (n - p))
  unfolding page_text print
  page_size k p =
      let on = page_on limit bs k p in
      omega (
        arith,
        length-append (print (head_line k)) (print (each (row_line bs) on.rows)),
        line_length_lem (head_line_lem k (omega (arith, length_most (dec k)))),
        lines_length bs on.rows
            (λ r m. row_whole f bs ready.accepted limit r (page_on_inside limit bs k p r m)),
        page_rows ready k p,
      )

  -- some pages from page k on are written; which follow is decided over the rest, from row p on
  pub record Putting (k : ℕ) (text₀ text : List ℕ) (count at p : ℕ) : Type 0 where
    pub made : List Page
    pub left : ℕ
    pub enough : n - p ≤ left
    pub all : pages_asked limit k f ≡ made ++ pages_from left (k + count) (drop p rows)
    pub so : FitSoFar (page_length bs) (length text₀) (length (pages_asked limit k f))
        (pages_asked limit k f) made (pages_from left (k + count) (drop p rows))
    pub counted : count ≡ length made
    pub wrote : Wrote text₀ 0 (each (page_text bs) made) text at
    pub bytes : at ≡ length (print (each (page_text bs) made))
    pub within : at ≤ length text₀

  pub putting_none : (k p : ℕ) (text : List ℕ) → Begins n k p → length text ≤ 18446744073709551615
      → Putting k text text 0 0 p
  unfolding print
  putting_none k p text begins small =
      let rest : pages_asked limit k f ≡ pages_from (n - (k - 1)) (k + 0) (drop p rows) =
      asked_some ready k p begins
      ∙ ap (λ (j : ℕ). pages_from (n - (k - 1)) j (drop p rows))
      (let same : k ≡ k + 0 = omega arith in same) in
      record {
        made = [];
        left = n - (k - 1);
        enough = omega (arith, begins.here);
        all = rest;
        so =
            subst (FitSoFar (page_length bs) (length text) (length (pages_asked limit k f))
            (pages_asked limit k f) []) rest (fit_none (page_length bs) _ _ _);
        counted = refl;
        wrote = none small (omega arith);
        bytes = refl;
        within = omega arith;
      }

  module _ {k : ℕ} {text₀ text : List ℕ} {count at p : ℕ} (put : Putting k text₀ text count at p)
    where
      -- they are all that fit
      done : fitting (page_length bs) (length text₀) (length (pages_asked limit k f))
          (pages_asked limit k f) ≡ put.made
          → PutPages f limit k text₀ text (record { count = count; length = at })
      done fits =
          record {
            made = put.made;
            fits = fits;
            texts =
                record { same = (whole put.wrote (omega (arith, put.bytes, put.within))).0 };
            count = put.counted;
            bytes = put.bytes;
          }

      -- no row is left
      pub putting-end : n ≤ p
          → PutPages f limit k text₀ text (record { count = count; length = at })
      putting-end over =
          done (fit_all (page_length bs) _ _ _
          (subst (FitSoFar (page_length bs) (length text₀) (length (pages_asked limit k f))
          (pages_asked limit k f) put.made)
          (ap (pages_from put.left (k + count))
          (drop_of_length-le rows {i = p} (omega (arith, rows_n ready)))
          ∙ pages_none put.left (k + count)) put.so))

      -- the page that is next
      module _ (inside : p < n) where
        abbrev next : Page
        next = page_on limit bs (k + count) p

        -- those after it
        abbrev later : List Page
        later = pages_from (put.left - 1) (k + (count + 1)) (drop (p + per_page) rows)

        -- it is the first of the rest
        rest_is : pages_from put.left (k + count) (drop p rows)
            ≡ next ∷ later
        rest_is =
            first_page put.left (k + count) (drop p rows)
            (omega (arith, length-drop p rows, rows_n ready))
            (omega (arith, length-drop p rows, rows_n ready, put.enough))
            ∙ ap₂ (λ (j : ℕ) (rs : List Row). next ∷ pages_from (put.left - 1) j rs)
            (let same : suc (k + count) ≡ k + (count + 1) = omega arith in same)
            (drop-drop per_page p rows)

        so_next : FitSoFar (page_length bs) (length text₀) (length (pages_asked limit k f))
            (pages_asked limit k f) put.made (next ∷ later)
        so_next =
            subst (FitSoFar (page_length bs) (length text₀) (length (pages_asked limit k f))
            (pages_asked limit k f) put.made) rest_is put.so

        all-next : pages_asked limit k f ≡ put.made ++ (next ∷ later)
        all-next = put.all ∙ ap (λ (ps : List Page). put.made ++ ps) rest_is

        -- it does not fit
        pub putting_over : length text₀ - at < 65 * (1 + min per_page (n - p))
            → PutPages f limit k text₀ text (record { count = count; length = at })
        putting_over over =
            done (fit_over (page_length bs) _ _ _ so_next
            (omega (
              arith,
              page_size (k + count) p,
              put.bytes,
              total_texts bs put.made,
            )))

        -- it fits, and is written
        pub putting_more : (m : ℕ) → m ≡ 65 * (1 + min per_page (n - p)) → m ≤ length text₀ - at
            → {text' : List ℕ} {r : ℕ} → Wrote text at (page_text bs next) text' r
            → Putting k text₀ text' (count + 1) (at + m) (p + per_page)
        unfolding print
        putting_more m is fits {text'} {r} w =
            let size = page_size (k + count) p in
            let more : r ≡ at + m =
            omega (arith, size, w.next, put.wrote.small, put.within) in
            record {
              made = put.made ++ (next ∷ []);
              left = put.left - 1;
              enough = omega (arith, put.enough);
              all = all-next ∙ sym (append_assoc put.made (next ∷ []) _);
              so =
                  fit_more (page_length bs) _ _ _ so_next
                  (omega (
                    arith,
                    ap length all-next,
                    length-append put.made (next ∷ later),
                  ))
                  (omega (
                    arith,
                    size,
                    put.bytes,
                    put.within,
                    total_texts bs put.made,
                  ));
              counted = omega (arith, put.counted, length-append put.made (next ∷ []));
              wrote =
                  subst (Wrote text₀ 0 (each (page_text bs) (put.made ++ (next ∷ []))) text') more
                  (wrote_as (seq put.wrote w)
                  (each_append (page_text bs) put.made (next ∷ []) []));
              bytes =
                  omega (
                    arith,
                    total_texts bs (put.made ++ (next ∷ [])),
                    total_more (page_length bs) put.made next,
                    total_texts bs put.made,
                    put.bytes,
                    size,
                  );
              within = omega (arith, put.within);
            }
