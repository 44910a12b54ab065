-- `find_page` finds the first row of a page.
-- Assumes nothing.
use native.Mathlib.Omega.{arith}
use Rattle.call_pages.specs.Steps.{IsFoundPage}
use Rattle.call_pages.proofs.text.find_page.Goals as goal

pub returns-then-k-eq0 : goal.returns-then-k-eq0
unfolding IsFoundPage
returns-then-k-eq0 c = λ some. absurd (omega arith)

pub returns-then-last-k : goal.returns-then-last-k
unfolding IsFoundPage
returns-then-last-k c = λ some. omega arith

pub returns : goal.returns
unfolding IsFoundPage
returns c = record { counted = omega arith; here = omega arith; inside = omega arith }
