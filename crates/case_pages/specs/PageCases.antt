-- Steps: what the calls for one page of the plan and for the pages from one on answer and leave, as
-- it is compared with a vector.
use Rattle.std.specs.Prelude.{ℕ, List, [], ◌∷◌, take, drop}
use Rattle.file_blocks.specs.Parse.{Parsed, parse}
use Rattle.plan_groups.specs.Limit.{part_limit}
use Rattle.call_frame.specs.Numbers.{Handed}
use Rattle.call_pages.specs.Calls.{page_call, page_numbers, pages_call, pages_numbers}
use Rattle.case_lent.specs.Left.{with_rest}
use Rattle.case_pages.specs.declared.asked.Asked.{Asked}
use Rattle.case_pages.specs.declared.asked.Pages.{Pages}
use Rattle.case_pages.specs.declared.asked.Pages.TheVariants.{One, From}

-- numbers with 0 after the first two
abbrev pub without_count : List ℕ → List ℕ
without_count [] = []
without_count (n ∷ []) = n ∷ []
without_count (n ∷ i ∷ values) = n ∷ i ∷ 0 ∷ values

-- what the call for one page hands over, with 0 for how many there are, which it does not say
abbrev pub one_page : Handed → Handed
one_page h =
    record { numbers = without_count h.numbers; work = h.work; results = h.results }

-- what the call for pages hands over, or the call for one
abbrev pub hands_over : Pages → (k : ℕ) → Parsed → (work text : List ℕ) → Handed
hands_over From k p work text = pages_numbers (pages_call part_limit k p work text)
hands_over One k p work text = one_page (page_numbers (page_call part_limit k p work text))

-- what a call answers, and what stands afterwards in all work numbers and all text of which it was
-- lent a front
abbrev pub page_call_leaves : Asked → (file work text : List ℕ) → Handed
page_call_leaves asked file work text =
    with_rest
    (hands_over asked.pages asked.page (parse file) (take asked.work work)
    (take asked.text text)) (drop asked.work work) (drop asked.text text)
