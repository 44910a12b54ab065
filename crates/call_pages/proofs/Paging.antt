-- The rows of a plan on pages.
-- Assumes nothing.
use Prim.Native.Nat.{ℕ, zero, suc, ◌+◌, ◌*◌, ◌-◌, ◌≤◌, ◌<◌, min}
use mathlib.Core.Path.{◌≡◌, refl, sym, ap, ap₂, ◌∙◌, subst}
use mathlib.Core.List.Memᴰ
use mathlib.Core.List.{List, [], ◌∷◌, ◌++◌, map, flatten, Memᴰ}
use native.Mathlib.Omega.{arith}
use lib.ListN.{length, get_or, take, drop, length-take, length-drop, take-append-drop}
use lib.ListN.{drop_of_length-le}
use lib.Seq.{get_or-take, get_or-drop, drop-drop, drop-nil}
use Rattle.base_lists.specs.Lists.{range}
use Rattle.file_blocks.specs.Parse.{Block, blocks_of}
use Rattle.plan_groups.specs.Plan.{plan}
use Rattle.plan_members.specs.Prepared.{HoldsPlan}
use Rattle.call_pages.specs.Page.{Row, rows_of, Page, per_page, pages_from, pages}
use Rattle.call_pages.specs.Calls.{from_page}
use Rattle.call_pages.specs.Steps.{row_at, page_on, Begins, pages_asked}
use Rattle.call_pages.proofs.Rows.{rows_n}

-- row i of the page that begins at row p
pub page_row : (limit : ℕ) (bs : List Block) (k p i : ℕ) → i < per_page
    → get_or (page_on limit bs k p).rows i (record { group = 0; block = 0 }) ≡ row_at limit bs (p + i)
page_row limit bs k p i h =
    get_or-take per_page (drop p (rows_of (plan limit bs))) i _ h
    ∙ get_or-drop p (rows_of (plan limit bs)) i _

-- how many rows it has
pub page_rows : {f : List ℕ} {n limit : ℕ} {work : List ℕ} → HoldsPlan f n limit work → (k p : ℕ)
    → length (page_on limit (blocks_of f) k p).rows ≡ min per_page (n - p)
page_rows {f} {n} {limit} ready k p =
    length-take per_page (drop p (rows_of (plan limit (blocks_of f))))
    ∙ ap (min per_page)
    (length-drop p (rows_of (plan limit (blocks_of f))) ∙ ap (λ (m : ℕ). m - p) (rows_n ready))

-- the rows on a page
abbrev pub rows_in : Page → List Row
rows_in p = p.rows

-- no rows, no pages
pub pages_none : (m k : ℕ) → pages_from m k [] ≡ []
unfolding pages_from
pages_none zero k = refl
pages_none (suc m) k = refl

-- the first page of some rows
pub first_page : (m k : ℕ) (rows : List Row) → 0 < length rows → length rows ≤ m
    → pages_from m k rows
    ≡ record { number = k; rows = take per_page rows }
    ∷ pages_from (m - 1) (suc k) (drop per_page rows)
unfolding pages_from
first_page m k [] some enough = absurd (omega arith)
first_page zero k (r ∷ rows) some enough = absurd (omega arith)
first_page (suc m) k (r ∷ rows) some enough =
    ap (λ (j : ℕ). record { number = k; rows = take per_page (r ∷ rows) }
    ∷ pages_from j (suc k) (drop per_page (r ∷ rows)))
    (let same : m ≡ suc m - 1 = omega arith in same)

-- the pages after the first j
drop_pages : (j m k : ℕ) (rows : List Row) → length rows ≤ m
    → drop j (pages_from m k rows) ≡ pages_from (m - j) (k + j) (drop (per_page * j) rows)
unfolding pages_from
drop_pages zero m k rows enough =
    ap₂ (λ (a b : ℕ). pages_from a b rows) (let same : m ≡ m - 0 = omega arith in same)
    (let same : k ≡ k + 0 = omega arith in same)
drop_pages (suc j) m k [] enough =
    ap (drop (suc j)) (pages_none m k) ∙ sym (pages_none (m - suc j) (k + suc j))
    ∙ ap (pages_from (m - suc j) (k + suc j)) (sym (drop-nil (per_page * suc j)))
drop_pages (suc j) zero k (r ∷ rows) enough = absurd (omega arith)
drop_pages (suc j) (suc m) k (r ∷ rows) enough =
    drop_pages j m (suc k) (drop per_page (r ∷ rows))
    (omega (arith, length-drop per_page (r ∷ rows)))
    ∙ ap₂ (λ (a b : ℕ). pages_from a b (drop (per_page * j) (drop per_page (r ∷ rows))))
    (let same : m - j ≡ suc m - suc j = omega arith in same)
    (let same : suc k + j ≡ k + suc j = omega arith in same)
    ∙ ap (pages_from (suc m - suc j) (k + suc j))
    (drop-drop (per_page * j) per_page (r ∷ rows)
    ∙ ap (λ (i : ℕ). drop i (r ∷ rows))
    (let same : per_page + per_page * j ≡ per_page * suc j = omega arith in same))

-- one after another they have all the rows
pages_flat : (m k : ℕ) (rows : List Row) → length rows ≤ m
    → flatten (map rows_in (pages_from m k rows)) ≡ rows
unfolding pages_from flatten
pages_flat zero k [] enough = refl
pages_flat zero k (r ∷ rows) enough = absurd (omega arith)
pages_flat (suc m) k [] enough = refl
pages_flat (suc m) k (r ∷ rows) enough =
    ap (λ (rest : List Row). take per_page (r ∷ rows) ++ rest)
    (pages_flat m (suc k) (drop per_page (r ∷ rows)) (omega (arith, length-drop per_page (r ∷ rows))))
    ∙ take-append-drop per_page (r ∷ rows)

pub pages_rows : (limit : ℕ) (bs : List Block)
    → flatten (map rows_in (pages limit bs)) ≡ rows_of (plan limit bs)
unfolding pages
pages_rows limit bs = pages_flat (length (rows_of (plan limit bs))) 1 _ (omega arith)

-- they are counted on from the first, and are no more than the rows
numbers_from_lem : (m k : ℕ) (rows : List Row)
    → map (λ (p : Page). p.number) (pages_from m k rows) ≡ range (length (pages_from m k rows)) k
unfolding pages_from
numbers_from_lem zero k rows = refl
numbers_from_lem (suc m) k [] = refl
numbers_from_lem (suc m) k (r ∷ rows) =
    ap (λ (ns : List ℕ). k ∷ ns) (numbers_from_lem m (suc k) (drop per_page (r ∷ rows)))

few_from : (m k : ℕ) (rows : List Row) → length (pages_from m k rows) ≤ m
unfolding pages_from
few_from zero k rows = omega arith
few_from (suc m) k [] = omega arith
few_from (suc m) k (r ∷ rows) = omega (arith, few_from m (suc k) (drop per_page (r ∷ rows)))

pub pages_numbers_lem : (limit : ℕ) (bs : List Block)
    → map (λ (p : Page). p.number) (pages limit bs) ≡ range (length (pages limit bs)) 1
unfolding pages
pages_numbers_lem limit bs = numbers_from_lem (length (rows_of (plan limit bs))) 1 (rows_of (plan limit bs))

pub pages_few : (limit : ℕ) (bs : List Block)
    → length (pages limit bs) ≤ length (rows_of (plan limit bs))
unfolding pages
pages_few limit bs = few_from (length (rows_of (plan limit bs))) 1 (rows_of (plan limit bs))

-- a row of one of some pages is one of their rows
in_flatten : (ps : List Page) (p : Page) → Memᴰ p ps → (r : Row) → Memᴰ r p.rows
    → Memᴰ r (flatten (map rows_in ps))
unfolding flatten
in_flatten [] p h r m = elim h [ ]
in_flatten (q ∷ ps) p (Memᴰ.head e) r m =
    Memᴰ.append_left (flatten (map rows_in ps)) (subst (λ (s : Page). Memᴰ r s.rows) e m)
in_flatten (q ∷ ps) p (Memᴰ.tail l) r m = Memᴰ.append_right q.rows (in_flatten ps p l r m)

pub page_inside : (limit : ℕ) (bs : List Block) (p : Page) → Memᴰ p (pages limit bs)
    → (r : Row) → Memᴰ r p.rows → Memᴰ r (rows_of (plan limit bs))
page_inside limit bs p l r m =
    subst (Memᴰ r) (pages_rows limit bs) (in_flatten (pages limit bs) p l r m)

-- so is a row of the page that begins at row p
pub page_on_inside : (limit : ℕ) (bs : List Block) (k p : ℕ) (r : Row)
    → Memᴰ r (page_on limit bs k p).rows → Memᴰ r (rows_of (plan limit bs))
page_on_inside limit bs k p r m =
    let rows = rows_of (plan limit bs) in
    subst (Memᴰ r) (take-append-drop p rows)
    (Memᴰ.append_right (take p rows)
    (subst (Memᴰ r) (take-append-drop per_page (drop p rows))
    (Memᴰ.append_left (drop per_page (drop p rows)) m)))

-- the pages that are asked for
module _ {f : List ℕ} {n limit : ℕ} {work : List ℕ} (ready : HoldsPlan f n limit work) (k : ℕ) where
  abbrev rows : List Row
  rows = rows_of (plan limit (blocks_of f))

  -- there is no such page
  pub asked_none : (1 ≤ k → n ≤ per_page * (k - 1)) → pages_asked limit k f ≡ []
  unfolding pages
  asked_none = go k
    where
      go : (j : ℕ) → (1 ≤ j → n ≤ per_page * (j - 1)) → from_page j (pages limit (blocks_of f)) ≡ []
      go zero past = refl
      go (suc j) past =
          drop_pages j (length rows) 1 rows (omega arith)
          ∙ ap (pages_from (length rows - j) (1 + j))
          (drop_of_length-le rows {i = per_page * j}
          (omega (arith, rows_n ready, past (omega arith))))
          ∙ pages_none (length rows - j) (1 + j)

  -- page k begins at row p
  pub asked_some : (p : ℕ) → Begins n k p
      → pages_asked limit k f ≡ pages_from (n - (k - 1)) k (drop p rows)
  unfolding pages
  asked_some = go k
    where
      go : (j p : ℕ) → Begins n j p
          → from_page j (pages limit (blocks_of f)) ≡ pages_from (n - (j - 1)) j (drop p rows)
      go zero p b = absurd (omega (arith, b.counted))
      go (suc j) p b =
          drop_pages j (length rows) 1 rows (omega arith)
          ∙ ap₂ (λ (a c : ℕ). pages_from a c (drop (per_page * j) rows))
          (let same : length rows - j ≡ n - (suc j - 1) = omega (arith, rows_n ready) in same)
          (let same : 1 + j ≡ suc j = omega arith in same)
          ∙ ap (λ (i : ℕ). pages_from (n - (suc j - 1)) (suc j) (drop i rows))
          (let same : per_page * j ≡ p = omega (arith, b.here) in same)
