-- The answers of the calls for one page and for pages.
-- Assumes nothing.
use Prim.Native.Nat.{ℕ, suc, ◌+◌, ◌*◌, ◌-◌, ◌≤◌, ◌<◌, min}
use mathlib.Core.Path.{◌≡◌, sym, ap, ap₂, ◌∙◌}
use mathlib.Core.List.{List, [], ◌∷◌, ◌++◌}
use native.Mathlib.Decide.{dec_le}
use native.Mathlib.Omega.{arith}
use lib.ListN.{length, drop, get_elem?, length-append, length-drop}
use Rattle.base_fitting.specs.Fitting.{fitting}
use Rattle.base_fitting.specs.Steps.{total}
use Rattle.base_fitting.proofs.Laws.{fit_room, fit_nothing}
use Rattle.base_text.specs.Doc.{print, each}
use Rattle.base_text.specs.Wrote.{Wrote}
use Rattle.base_text.proofs.Laws.{whole}
use Rattle.file_blocks.specs.Parse.{Block, blocks_of}
use Rattle.plan_groups.specs.Plan.{plan}
use Rattle.plan_members.specs.Prepared.{HoldsPlan}
use Rattle.call_frame.specs.Frame.{if_found, numbered, refused_with}
use Rattle.call_frame.proofs.Pieces.{Some, none_of, some_of, decided_9, decided_first}
use Rattle.call_frame.proofs.Pieces.{decided_front}
use Rattle.call_frame.proofs.Settling.{refused_own, refused_10, handed_over}
use Rattle.call_pages.specs.declared.text.Front.{Front}
use Rattle.call_frame.specs.declared.refusal.Refusal.{Refusal}
use Rattle.std.specs.Prelude.{Ok, Err}
use Rattle.call_pages.specs.Page.{rows_of, Page, per_page, pages_from, page_text, page_length}
use Rattle.call_pages.specs.declared.pages.PagesValues.{PagesValues}
use Rattle.call_pages.specs.Calls.{made_page, made_pages}
use Rattle.call_pages.specs.Steps.{page_on, Begins, pages_asked, PutPages, AnswersPage}
use Rattle.call_pages.specs.Steps.{AnswersPages}
use Rattle.call_pages.proofs.Fitted.{page_size, total_texts}
use Rattle.call_pages.proofs.Paging.{first_page, asked_none, asked_some}
use Rattle.call_pages.proofs.Rows.{rows_n}

-- the values of an answer
abbrev values_of : ℕ → ℕ → PagesValues
values_of c n = record { count = c; length = n }

module _ {f : List ℕ} {n limit : ℕ} {work : List ℕ} (ready : HoldsPlan f n limit work) (k : ℕ)
    (text : List ℕ) where
  abbrev bs : List Block
  bs = blocks_of f

  abbrev asked : List Page
  asked = pages_asked limit k f

  -- the pages that fit
  abbrev fit : List Page → List Page
  fit ps = fitting (page_length bs) (length text) (length ps) ps

  module _ (past : 1 ≤ k → n ≤ per_page * (k - 1)) where
    -- there is no such page
    pub page_9 : AnswersPage limit k f (Err Refusal.NotFound) text text
    page_9 = λ work.
        refused_own _
        (ap (λ (ps : List Page). if_found (made_page bs) (get_elem? ps 0)) (asked_none ready k past))
        work (text ∷ [])

    pub pages_9 : AnswersPages limit k f (Err Refusal.NotFound) text text
    pages_9 = λ work.
        refused_own _ (decided_9 (made_pages bs) fit asked (asked_none ready k past)) work
        (text ∷ [])

  module _ {p : ℕ} (begins : Begins n k p) where
    -- the page that is asked for
    abbrev on : Page
    on = page_on limit bs k p

    -- it is the first
    first : Some asked
    first =
        record {
          first = on;
          others =
              pages_from (n - (k - 1) - 1) (suc k) (drop per_page (drop p (rows_of (plan limit bs))));
          is =
              asked_some ready k p begins
              ∙ first_page (n - (k - 1)) k (drop p (rows_of (plan limit bs)))
              (omega (arith, length-drop p (rows_of (plan limit bs)), rows_n ready, begins.inside))
              (omega (
                arith,
                length-drop p (rows_of (plan limit bs)),
                rows_n ready,
                begins.here,
              ));
        }

    found : if_found (made_page bs) (get_elem? asked 0) ≡ made_page bs on
    unfolding first
    found = ap (λ (ps : List Page). if_found (made_page bs) (get_elem? ps 0)) first.is

    -- it does not fit
    pub page_10 : length text < 65 * (1 + min per_page (n - p))
        → AnswersPage limit k f (Err Refusal.ShortResult) text text
    page_10 over = λ work.
        refused_10 _ _ found work text (omega (arith, page_size ready k p))

    -- it is in the front of the text
    pub page_made : {m : ℕ} → m ≡ 65 * (1 + min per_page (n - p)) → m ≤ length text
        → {text' : List ℕ} {r : ℕ} → Wrote text 0 (page_text bs on) text' r
        → AnswersPage limit k f (Ok m) text text'
    page_made {m} is fits w = λ work.
        let size : m ≡ page_length bs on = is ∙ sym (page_size ready k p) in
        handed_over _ _ found work text _ _ size (omega arith) (whole w (omega arith)).0

    -- where nothing fits, the text is too short for it
    too_short : fit asked ≡ []
        → length text < length (print (each (page_text bs) (first.first ∷ [])))
    unfolding print
    too_short nothing =
        elim (dec_le (page_length bs first.first) (length text)) [
          | yes h ↦ absurd (omega (
            arith,
            fit_nothing (page_length bs) (length text) (suc (length first.others)) first.first
                first.others (ap fit (sym first.is) ∙ nothing) h,
          ))
          | no d ↦ omega (arith, length-append (print (page_text bs first.first)) [])
        ]

    module _ {text' : List ℕ} {r : Front} (put : PutPages f limit k text text' r) where
      -- not one fits
      pub pages_10 : r.count ≡ 0 → AnswersPages limit k f (Err Refusal.ShortResult) text text'
      unfolding print
      pages_10 zero = λ work.
          let made : put.made ≡ [] = none_of put.made (omega (arith, put.count)) in
          let nothing : fit asked ≡ [] = put.fits ∙ made in
          let kept : text' ≡ text =
          put.texts.same
          ∙ ap (λ (ps : List Page). print (each (page_text bs) ps)
          ++ drop (length (print (each (page_text bs) ps))) text) made in
          ap (λ (t : List ℕ). refused_with (numbered 10) work (t ∷ [])) kept
          ∙ refused_10 _ _ (decided_first (made_pages bs) fit asked first nothing) work text
          (too_short nothing)

      -- some are in the front
      pub pages_made : 0 < r.count
          → AnswersPages limit k f (Ok (values_of r.count r.length)) text text'
      pages_made any = λ work.
          let m = some_of put.made (λ e. omega (arith, put.count, ap length e)) in
          handed_over _ _
          (decided_front (made_pages bs) fit asked first m.first m.others (put.fits ∙ m.is)
          ∙ ap (made_pages bs) (sym m.is)) work text _ text'
          (ap₂ values_of put.count put.bytes)
          (omega (
            arith,
            total_texts bs put.made,
            ap (total (page_length bs)) put.fits,
            fit_room (page_length bs) (length text) (length asked) asked,
          )) put.texts.same
