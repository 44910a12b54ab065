-- The list of all numbers that a call for the plan leaves, as it is put together: three numbers
-- stored, and what two buffers hold put after them.
use Prim.Native.Nat.{ℕ, ◌+◌, ◌≤◌}
use native.Mathlib.Omega.{arith}
use mathlib.Core.Path.{◌≡◌, refl, sym, ap, ap₂, ◌∙◌}
use mathlib.Core.List.{List, [], ◌∷◌, ◌++◌, append-nil}
use lib.ListN.{length, take, drop, set, get_or}
use lib.Seq.{take-length, drop-length, sets-eq, length-sets, paste, length-paste, take-paste}
use Rattle.call_frame.specs.Answer.{Answer, refusal, value}
use Rattle.call_frame.specs.Frame.{Outcome}
use Rattle.call_frame.specs.Numbers.{Handed, numbers_of}
use Rattle.call_plan.specs.Calls.{plan_numbers}
use Rattle.case_plan.specs.PlanCases.{the_result, in_order}

-- the numbers of a buffer put after a front, up to the end
ends : (front g w : List ℕ) (at : ℕ) → take at g ≡ front → length g ≡ at + length w
    → paste g at w (length w) ≡ front ++ w
ends front g w at t l =
    let rest : drop (at + length w) g ≡ [] = ap (λ (k : ℕ). drop k g) (sym l) ∙ drop-length g in
    ap₂ (λ (x y : List ℕ). x ++ y) (ap₂ (λ (x y : List ℕ). x ++ y) t (take-length w)) rest
    ∙ append-nil (front ++ w)

module _ (a b c : ℕ) (g w r : List ℕ) (long : length g ≡ 3 + (length w + length r)) where
  abbrev stored : List ℕ
  stored = set (set (set g 0 a) 1 b) 2 c

  abbrev after : List ℕ
  after = paste stored 3 w (length w)

  stored_length : length stored ≡ 3 + (length w + length r)
  stored_length = length-sets g 0 (a ∷ b ∷ c ∷ []) ∙ long

  stored_front : take 3 stored ≡ a ∷ b ∷ c ∷ []
  stored_front = ap (take 3) (sets-eq (a ∷ b ∷ c ∷ []) g 0 (omega (arith, long)))

  after_length : length after ≡ 3 + length w + length r
  after_length =
      let inside : 3 + length w ≤ length stored = omega (arith, stored_length) in
      let sum : length stored ≡ 3 + length w + length r = omega (arith, stored_length) in
      length-paste stored 3 w (length w) inside (omega arith) ∙ sum

  after_front : take (3 + length w) after ≡ a ∷ b ∷ c ∷ w
  after_front =
      let inside : 3 ≤ length stored = omega (arith, stored_length) in
      take-paste stored 3 w (length w) inside (omega arith)
      ∙ ap₂ (λ (x y : List ℕ). x ++ y) stored_front (take-length w)

  pub gathered : paste after (3 + length w) r (length r) ≡ a ∷ b ∷ c ∷ (w ++ r)
  gathered = ends (a ∷ b ∷ c ∷ w) after r (3 + length w) after_front after_length

-- the numbers of an answer, with those lent after them
abbrev pub three_and_lent : Handed → List ℕ
three_and_lent h = get_or h.numbers 0 0 ∷ get_or h.numbers 1 0 ∷ get_or h.numbers 2 0
    ∷ (h.work ++ the_result h.results)

by_answer : (a : Answer ℕ) (l : List ℕ)
    → get_or (numbers_of 1 (λ (n : ℕ). n ∷ []) a) 0 0
    ∷ get_or (numbers_of 1 (λ (n : ℕ). n ∷ []) a) 1 0
    ∷ get_or (numbers_of 1 (λ (n : ℕ). n ∷ []) a) 2 0 ∷ l
    ≡ numbers_of 1 (λ (n : ℕ). n ∷ []) a ++ l
by_answer (refusal n i) l = refl
by_answer (value b) l = refl

pub with_lent : (o : Outcome ℕ) → three_and_lent (plan_numbers o) ≡ in_order (plan_numbers o)
with_lent o = by_answer o.answer (o.work ++ the_result o.results)
