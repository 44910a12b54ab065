-- Steps: the rows and pages that the steps of the code name, and what they answer once the work
-- numbers hold the plan.
use Rattle.std.specs.Prelude.{ℕ, ◌*◌, ◌-◌, ◌≤◌, ◌<◌, ◌≡◌, List, [], ◌∷◌, length, get_or, take, drop, Option, Some, None, Result}
use Rattle.base_fitting.specs.Fitting.{fitting}
use Rattle.base_fitting.specs.Steps.{HasFront}
use Rattle.base_text.specs.Doc.{print, each}
use Rattle.file_blocks.specs.Parse.{Block, blocks_of}
use Rattle.plan_groups.specs.Plan.{plan}
use Rattle.call_frame.specs.Frame.{settle}
use Rattle.call_frame.specs.declared.refusal.Refusal.{Refusal}
use Rattle.call_frame.specs.Refusal.{answer_of}
use Rattle.call_pages.specs.declared.text.Front.{Front}
use Rattle.call_pages.specs.declared.pages.PagesValues.{PagesValues}
use Rattle.call_pages.specs.Page.{Row, rows_of, Page, per_page, pages, page_text, page_length}
use Rattle.call_pages.specs.Calls.{from_page, asks_page, asks_pages}

-- row p of a plan; a row of zeros where it has none
abbrev pub row_at : ℕ → List Block → ℕ → Row
row_at limit bs p = get_or (rows_of (plan limit bs)) p (record { group = 0; block = 0 })

-- page k, where it begins at row p
abbrev pub page_on : ℕ → List Block → ℕ → ℕ → Page
page_on limit bs k p = record { number = k; rows = take per_page (drop p (rows_of (plan limit bs))) }

-- of n rows row p is the first on page k
pub record Begins (n k p : ℕ) : Type 0 where
  pub counted : 1 ≤ k
  pub here : p ≡ per_page * (k - 1)
  pub inside : p < n

-- where page k of n rows begins; there is none for 0, nor where no row is left
unfoldable pub IsFoundPage : ℕ → ℕ → Option ℕ → Type 0
IsFoundPage n k (Some p) = Begins n k p
IsFoundPage n k None = 1 ≤ k → n ≤ per_page * (k - 1)

-- the pages of a file from page k on
abbrev pub pages_asked : ℕ → ℕ → List ℕ → List Page
pages_asked limit k f = from_page k (pages limit (blocks_of f))

-- the pages from page k on that fit are in the front of a text
pub record PutPages (f : List ℕ) (limit k : ℕ) (text text' : List ℕ) (r : Front) : Type 0 where
  pub made : List Page
  pub fits : fitting (page_length (blocks_of f)) (length text) (length (pages_asked limit k f))
      (pages_asked limit k f)
      ≡ made
  pub texts : HasFront (print (each (page_text (blocks_of f)) made)) text text'
  pub count : r.count ≡ length made
  pub bytes : r.length ≡ length (print (each (page_text (blocks_of f)) made))

-- an answer, and the text that it leaves, are those of the call for page k, whatever becomes of the
-- work numbers
abbrev pub AnswersPage : ℕ → ℕ → List ℕ → Result ℕ Refusal → List ℕ → List ℕ → Type 0
AnswersPage limit k f r text text' = (work : List ℕ)
    → record { answer = answer_of r; work = work; results = text' ∷ [] }
    ≡ settle ((asks_page limit k).own (blocks_of f) (length text ∷ [])) work (text ∷ [])

-- the same of the call for pages
abbrev pub AnswersPages : ℕ → ℕ → List ℕ → Result PagesValues Refusal → List ℕ → List ℕ → Type 0
AnswersPages limit k f r text text' = (work : List ℕ)
    → record { answer = answer_of r; work = work; results = text' ∷ [] }
    ≡ settle ((asks_pages limit k).own (blocks_of f) (length text ∷ [])) work (text ∷ [])
