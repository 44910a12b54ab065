-- To be believed: parents, each number's, the root that following them finds, and edges.
use Rattle.std.specs.Prelude.{ℕ, zero, suc, ◌*◌, cond, List, length, get_or, set, eqb}

-- i's parent
abbrev pub parent : List ℕ → ℕ → ℕ
parent p i = get_or p i 0

-- follows parents from i until one is its own, at most n times
unfoldable pub follow : ℕ → List ℕ → ℕ → ℕ
follow zero p i = i
follow (suc n) p i = cond (eqb (parent p i) i) i (follow n p (parent p i))

-- the root of i (document 01). An edge makes the path to a root at most one step longer, and a
-- block has at most two edges, so two steps for each block suffice
abbrev pub root : List ℕ → ℕ → ℕ
root p i = follow (2 * length p) p i

-- hangs the root of i under the root of j
abbrev pub hang : List ℕ → ℕ → ℕ → List ℕ
hang p i j = set p (root p i) (root p j)
