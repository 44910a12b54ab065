-- Steps: two lists as one.
use Rattle.std.specs.Prelude.{ℕ, List, [], ◌∷◌}

-- two lists as one, number by number in turn, up to the end of the shorter
unfoldable pub interleave : List ℕ → List ℕ → List ℕ
interleave [] ys = []
interleave (x ∷ xs) [] = []
interleave (x ∷ xs) (y ∷ ys) = x ∷ y ∷ interleave xs ys
