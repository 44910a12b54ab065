-- Steps: what a loop over pieces keeps, which writes one after another.
use Rattle.std.specs.Prelude.{ℕ, ◌+◌, ◌-◌, ◌≡◌, List, [], ◌∷◌, ◌++◌, length, drop}
use Rattle.base_fitting.specs.Fitting.{fitting}

-- the sizes of some pieces in all
unfoldable pub total : {X : Type 0} → (X → ℕ) → List X → ℕ
total size [] = 0
total size (x ∷ xs) = size x + total size xs

-- of all pieces those made are the first that fit, and which follow is decided over the rest
pub record FitSoFar {X : Type 0} (size : X → ℕ) (room places : ℕ) (all made rest : List X) : Type 0
  where
    pub same : fitting size room places all
        ≡ made ++ fitting size (room - total size made) (places - length made) rest

-- a list whose front became another
pub record HasFront {X : Type 0} (front before after : List X) : Type 0 where
  pub same : after ≡ front ++ drop (length front) before
