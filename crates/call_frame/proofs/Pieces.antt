-- What is decided of pieces, by those that fit.
-- Assumes nothing.
use mathlib.Core.Path.{◌≡◌, refl, sym, ap, ◌∙◌}
use mathlib.Core.List.{List, [], ◌∷◌}
use native.Mathlib.Omega.{arith}
use lib.ListN.{length}
use Rattle.base_fitting.specs.Fitting.{or_first}
use Rattle.call_frame.specs.Frame.{Decision, refuses, numbered}
use Rattle.call_frame.specs.Pieces.{of_those_that_fit}

-- the first of some pieces, if there is one, and those after it
pub record Some {X : Type 0} (xs : List X) : Type 0 where
  pub first : X
  pub others : List X
  pub is : xs ≡ first ∷ others

-- pieces that are none
pub none_of : {X : Type 0} (xs : List X) → length xs ≡ 0 → xs ≡ []
none_of [] e = refl
none_of (x ∷ xs) e = absurd (omega (arith, e))

-- pieces that are not none
pub some_of : {X : Type 0} (xs : List X) → (xs ≡ [] → ⊥) → Some xs
some_of [] h = absurd (h refl)
some_of (x ∷ xs) h = record { first = x; others = xs; is = refl }

module _ {X A : Type 0} (make : List X → Decision A) (fit : List X → List X) (xs : List X) where
  -- there are none
  pub decided_9 : xs ≡ [] → of_those_that_fit make fit xs ≡ refuses (numbered 9)
  decided_9 none = ap (of_those_that_fit make fit) none

  module _ (some : Some xs) where
    -- not even the first fits
    pub decided_first : fit xs ≡ [] → of_those_that_fit make fit xs ≡ make (some.first ∷ [])
    decided_first e =
        ap (of_those_that_fit make fit) some.is
        ∙ ap (λ (ys : List X). make (or_first some.first ys)) (ap fit (sym some.is) ∙ e)

    -- some fit
    pub decided_front : (y : X) (ys : List X) → fit xs ≡ y ∷ ys
        → of_those_that_fit make fit xs ≡ make (y ∷ ys)
    decided_front y ys e =
        ap (of_those_that_fit make fit) some.is
        ∙ ap (λ (zs : List X). make (or_first some.first zs)) (ap fit (sym some.is) ∙ e)
