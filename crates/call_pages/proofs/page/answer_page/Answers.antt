-- One law for each of the three answers.
-- Assumes nothing.
use mathlib.Core.Path.{subst}
use native.Mathlib.Omega.{arith}
use Rattle.call_pages.specs.Steps.{Begins, IsFoundPage}
use Rattle.call_pages.proofs.Answers.{page_9, page_10, page_made}
use Rattle.call_pages.proofs.page.answer_page.Goals as goal

pub returns-in_default : goal.returns-in_default
unfolding IsFoundPage
returns-in_default c =
    record {
      answer = let a = c.args in
          λ limit ready.
          page_9 ready a.k _
          (subst (IsFoundPage a.n a.k) c.in_default.is c.find_page.ensures);
    }

pub page_length-length-requires : goal.page_length-length-requires
unfolding IsFoundPage
page_length-length-requires c =
    let a = c.args in
    let begins : Begins a.n a.k _ =
    subst (IsFoundPage a.n a.k) c.in-Some.is c.find_page.ensures in
    omega (arith, begins.inside)

pub returns-then-text-length : goal.returns-then-text-length
unfolding IsFoundPage
returns-then-text-length c =
    record {
      answer = let a = c.args in
          λ limit ready.
          page_10 ready a.k _
          (subst (IsFoundPage a.n a.k) c.in-Some.is c.find_page.ensures)
          (omega (arith, c.page_length-length.ensures));
    }

pub put_page-requires : goal.put_page-requires
unfolding IsFoundPage
put_page-requires c =
    let a = c.args in
    let begins : Begins a.n a.k _ =
    subst (IsFoundPage a.n a.k) c.in-Some.is c.find_page.ensures in
    (c.requires, omega (arith, begins.inside))

pub returns : goal.returns
unfolding IsFoundPage
returns c =
    record {
      answer = let a = c.args in
          λ limit ready.
          page_made ready a.k _
          (subst (IsFoundPage a.n a.k) c.in-Some.is c.find_page.ensures)
          c.page_length-length.ensures (omega arith) (c.put_page.ensures limit ready);
    }
