-- What a comparison of lists of numbers, place by place, comes to.
use Prim.{absurd}
use Prim.Native.Nat.{ℕ, suc, ◌+◌, ◌<◌}
use mathlib.Core.Path.{◌≡◌, refl, ap}
use mathlib.Core.Bool.{true, false, ◌&&◌, and-false}
use mathlib.Core.List.{List, [], ◌∷◌}
use native.Mathlib.Numerals.{add-one}
use lib.Dec.{eqb}
use lib.ListN.{length, drop, get_or}
use lib.Seq.{drop-cons, drop-length}
use borrow.Author.Tests.{eq-eqb, ne_eqb}
use Rattle.case_io.specs.Same.{same_numbers}

-- lists of different lengths are not the same
pub lengths_differ : (a b : List ℕ) → (length a ≡ length b → ⊥) → false ≡ same_numbers a b
lengths_differ [] [] h = absurd (h refl)
lengths_differ [] (y ∷ ys) h = refl
lengths_differ (x ∷ xs) [] h = refl
lengths_differ (x ∷ xs) (y ∷ ys) h = rw (← lengths_differ xs ys (λ e. h (ap suc e)), and-false)

module _ (a b : List ℕ) (i : ℕ) (ha : i < length a) (hb : i < length b) where
  -- the lists from a place on: the numbers there, and what comes after them
  step : same_numbers (drop i a) (drop i b)
      ≡ (eqb (get_or a i 0) (get_or b i 0) && same_numbers (drop (i + 1) a) (drop (i + 1) b))
  step = rw (add-one, drop-cons a i 0, drop-cons b i 0)

  -- different numbers there decide
  pub place_differs : (get_or a i 0 ≡ get_or b i 0 → ⊥) → false ≡ same_numbers (drop i a) (drop i b)
  place_differs h = rw (step, ne_eqb _ _ h)

  -- equal numbers there leave it to what comes after them
  pub place_same : get_or a i 0 ≡ get_or b i 0
      → same_numbers (drop i a) (drop i b) ≡ same_numbers (drop (i + 1) a) (drop (i + 1) b)
  place_same h = rw (step, eq-eqb _ _ h)

-- from the end on nothing is left
drop_end : (l : List ℕ) (i : ℕ) → i ≡ length l → drop i l ≡ []
drop_end l i h = rw h (drop-length l)

-- where nothing is left nothing differs
pub end_same : (a b : List ℕ) (i : ℕ) → i ≡ length a → i ≡ length b
    → true ≡ same_numbers (drop i a) (drop i b)
end_same a b i ha hb = rw (drop_end a i, drop_end b i)
