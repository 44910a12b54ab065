-- To be believed: the numbers that a call hands over through the C interface.
use Rattle.std.specs.Prelude.{ℕ, List, ◌∷◌, replicate}
use Rattle.call_frame.specs.Answer.{Answer, refusal, value}
use Rattle.call_frame.specs.Frame.{Outcome}

-- the numbers of an answer, in the order of the interface: what is returned, 0 or the refusal's
-- number; i, or 0; and so many values, all 0 on refusal
abbrev pub numbers_of : {A : Type 0} → ℕ → (A → List ℕ) → Answer A → List ℕ
numbers_of count values (refusal n i) = n ∷ i ∷ replicate count 0
numbers_of count values (value v) = 0 ∷ 0 ∷ values v

-- what a call hands over: its numbers, and all that it was lent
pub record Handed : Type 0 where
  pub numbers : List ℕ
  pub work : List ℕ
  pub results : List (List ℕ)

-- the same of what a call leaves
abbrev pub handed : {A : Type 0} → ℕ → (A → List ℕ) → Outcome A → Handed
handed count values o =
    record { numbers = numbers_of count values o.answer; work = o.work; results = o.results }
