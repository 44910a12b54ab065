-- To be believed: consecutive numbers, whether a number is among some, whether a list is empty, or
-- something is there, how often a number stands in a list, and the first that passes a test.
use Rattle.std.specs.Prelude.{ℕ, zero, suc, ◌+◌, ◌≡◌, Bool, true, false, ◌||◌, cond, eqb}
use mathlib.Core.List.{List, [], ◌∷◌, ◌++◌, Memᴰ}
use Rattle.std.proofs.Math.Option.{Option, none, some}

-- n numbers from i on
abbrev pub range : ℕ → ℕ → List ℕ
range zero i = []
range (suc n) i = i ∷ range n (suc i)

-- whether a number is among some
abbrev pub among : ℕ → List ℕ → Bool
among k [] = false
among k (j ∷ js) = eqb k j || among k js

-- whether a list is empty
abbrev pub is_empty : {A : Type 0} → List A → Bool
is_empty [] = true
is_empty (i ∷ is) = false

-- whether something is there
abbrev pub is_some : {A : Type 0} → Option A → Bool
is_some none = false
is_some (some x) = true

-- how often a number stands in a list
unfoldable pub count : ℕ → List ℕ → ℕ
count i [] = 0
count i (j ∷ js) = cond (eqb i j) 1 0 + count i js

-- the first of a list that passes a test
abbrev pub first_of : {A : Type 0} → (A → Bool) → List A → Option A
first_of p [] = none
first_of p (x ∷ xs) = cond (p x) (some x) (first_of p xs)

-- the same as a fact: x stands in the list, it passes, and none before it does
pub record IsFirst {A : Type 0} (p : A → Bool) (xs : List A) (x : A) : Type 0 where
  pub before : List A
  pub after : List A
  pub placed : xs ≡ before ++ (x ∷ after)
  pub here : p x ≡ true
  pub earlier : (y : A) → Memᴰ y before → p y ≡ false
