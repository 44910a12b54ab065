-- To be believed: the public calls for one page of the plan and for the pages from a given one on.
-- Each is lent work numbers and a text.
use Rattle.std.specs.Prelude.{ℕ, zero, suc, List, [], ◌∷◌, length, get_or, drop}
use Rattle.std.proofs.Math.Option.{none}
use Rattle.std.proofs.Math.ListN.{get_elem?}
use Rattle.base_fitting.specs.Fitting.{fitting}
use Rattle.base_text.specs.Doc.{print, each}
use Rattle.file_blocks.specs.Parse.{Block, Parsed}
use Rattle.call_frame.specs.Frame.{Decision, Call, Outcome, makes, if_found, call_frame}
use Rattle.call_frame.specs.Numbers.{Handed, handed}
use Rattle.call_frame.specs.Pieces.{of_those_that_fit}
use Rattle.call_pages.specs.declared.pages.PagesValues.{PagesValues}
use Rattle.call_pages.specs.Page.{Page, pages, page_text, page_length}

-- the pages from page k on; they are counted from 1, and there is no page 0
abbrev pub from_page : ℕ → List Page → List Page
from_page zero ps = []
from_page (suc k) ps = drop k ps

-- what is made of a page: the length of its text, and the text
abbrev pub made_page : List Block → Page → Decision ℕ
made_page bs p = makes (page_length bs p) (print (page_text bs p) ∷ [])

-- what is made of some pages: their values, and their texts one after another
abbrev pub made_pages : List Block → List Page → Decision PagesValues
made_pages bs ps =
    makes (record { count = length ps; length = length (print (each (page_text bs) ps)) })
    (print (each (page_text bs) ps) ∷ [])

-- what is made of some pages, by the text that is lent: as many whole ones as fit it
abbrev pub fitting_pages : List Block → List ℕ → List Page → Decision PagesValues
fitting_pages bs rooms =
    of_those_that_fit (made_pages bs)
    (λ (ps : List Page). fitting (page_length bs) (get_or rooms 0 0) (length ps) ps)

-- what the call for one page makes: page k, or 9 where there is none
abbrev pub asks_page : ℕ → ℕ → Call ℕ
asks_page limit k =
    record {
      early = none;
      per_block = 4;
      own = λ (bs : List Block) (rooms : List ℕ).
          if_found (made_page bs) (get_elem? (from_page k (pages limit bs)) 0);
    }

-- what the call for pages makes: from page k on as many whole pages as fit the text (page k alone
-- where not even that does, for which the text is then too short), or 9 where there is no page k
abbrev pub asks_pages : ℕ → ℕ → Call PagesValues
asks_pages limit k =
    record {
      early = none;
      per_block = 4;
      own = λ (bs : List Block) (rooms : List ℕ).
          fitting_pages bs rooms (from_page k (pages limit bs));
    }

-- the call for page k of a file, by the work numbers and the text that are lent
abbrev pub page_call : ℕ → ℕ → Parsed → List ℕ → List ℕ → Outcome ℕ
page_call limit k p work text = call_frame (asks_page limit k) p work (text ∷ [])

-- the call for the pages of a file from page k on
abbrev pub pages_call : ℕ → ℕ → Parsed → List ℕ → List ℕ → Outcome PagesValues
pages_call limit k p work text = call_frame (asks_pages limit k) p work (text ∷ [])

-- what the call for one page hands over: after the numbers of every answer the length
abbrev pub page_numbers : Outcome ℕ → Handed
page_numbers = handed 1 (λ (n : ℕ). n ∷ [])

-- what the call for pages hands over: after the numbers of every answer how many pages are written,
-- and their bytes in all
abbrev pub pages_numbers : Outcome PagesValues → Handed
pages_numbers = handed 2 (λ (v : PagesValues). v.count ∷ v.length ∷ [])
