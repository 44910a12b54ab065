-- Examples: pieces that are as large as they say, computed.
use Rattle.std.specs.Prelude.{◌≡◌, refl, ℕ, [], ◌∷◌}
use Rattle.base_fitting.specs.Fitting.{fitting, or_first}

-- the third does not fit; a smaller one after it is not taken
fitting_room : fitting (λ (n : ℕ). n) 10 9 (3 ∷ 4 ∷ 5 ∷ 1 ∷ []) ≡ 3 ∷ 4 ∷ []
unfolding fitting
fitting_room = refl

-- a room that is exactly full
fitting_exact : fitting (λ (n : ℕ). n) 12 9 (3 ∷ 4 ∷ 5 ∷ 1 ∷ []) ≡ 3 ∷ 4 ∷ 5 ∷ []
unfolding fitting
fitting_exact = refl

-- two places
fitting_places : fitting (λ (n : ℕ). n) 99 2 (3 ∷ 4 ∷ 5 ∷ []) ≡ 3 ∷ 4 ∷ []
unfolding fitting
fitting_places = refl

-- none fits, and the first stands alone for it
fitting_none : or_first 3 (fitting (λ (n : ℕ). n) 2 9 (3 ∷ 1 ∷ [])) ≡ 3 ∷ []
unfolding fitting
fitting_none = refl
