-- One law for each of the three answers.
-- Assumes nothing.
use mathlib.Core.Path.{subst}
use native.Mathlib.Omega.{arith}
use Rattle.call_pages.specs.Steps.{IsFoundPage}
use Rattle.call_pages.proofs.Answers.{pages_9, pages_10, pages_made}
use Rattle.call_pages.proofs.pages.answer_pages.Goals as goal

pub returns-in_default : goal.returns-in_default
unfolding IsFoundPage
returns-in_default c =
    record {
      answer = let a = c.args in
          λ limit ready.
          pages_9 ready a.k _
          (subst (IsFoundPage a.n a.k) c.in_default.is c.find_page.ensures);
    }

pub put_pages-front-requires : goal.put_pages-front-requires
unfolding IsFoundPage
put_pages-front-requires c =
    let a = c.args in (
      c.requires,
      subst (IsFoundPage a.n a.k) c.in-Some.is c.find_page.ensures,
    )

pub returns-then-front-eq0 : goal.returns-then-front-eq0
unfolding IsFoundPage
returns-then-front-eq0 c =
    record {
      answer = let a = c.args in
          λ limit ready.
          pages_10 ready a.k _
          (subst (IsFoundPage a.n a.k) c.in-Some.is c.find_page.ensures)
          (c.put_pages-front.ensures limit ready) (omega arith);
    }

pub returns : goal.returns
unfolding IsFoundPage
returns c =
    record {
      answer = let a = c.args in
          λ limit ready.
          pages_made ready a.k _
          (subst (IsFoundPage a.n a.k) c.in-Some.is c.find_page.ensures)
          (c.put_pages-front.ensures limit ready) (omega arith);
    }
