-- Steps: what the answers of the code stand for, and what the searches keep.
use Rattle.std.specs.Prelude.{ℕ, ◌≤◌, ◌<◌, cond, ◌&&◌, List, [], ◌∷◌, length, get_or, eqb, ltb, Option, Some, None}
use Rattle.std.proofs.Math.Option as maybe

-- a number that the code found, or that there is none, as the definitions have it
abbrev pub number_of : Option ℕ → maybe.Option ℕ
number_of (Some i) = maybe.some i
number_of None = maybe.none

-- the lower of `best` and i, if i has the key of the number before it; `best` if not
abbrev pub lesser : List ℕ → ℕ → ℕ → ℕ → ℕ
lesser keys best last i = cond (eqb (get_or keys last 0) (get_or keys i 0) && ltb i best) i best

-- the least of `best` and of the numbers whose key is that of the number before them, `last` being
-- the one before the first
unfoldable pub least_repeat : List ℕ → ℕ → ℕ → List ℕ → ℕ
least_repeat keys best last [] = best
least_repeat keys best last (i ∷ is) = least_repeat keys (lesser keys best last i) i is

-- the key of the block at place p of an order
abbrev pub key_in_order : List ℕ → List ℕ → ℕ → ℕ
key_in_order keys order p = get_or keys (get_or order p 0) 0

-- the places before low have keys below the key, those from high on have not
pub record Between (keys order : List ℕ) (key low high : ℕ) : Type 0 where
  pub before : low ≤ high
  pub inside : high ≤ length order
  pub below : (p : ℕ) → p < low → key_in_order keys order p < key
  pub above : (p : ℕ) → high ≤ p → p < length order → key ≤ key_in_order keys order p
