-- Steps: parents that lead to roots, and what the search for a root and an edge make of them.
use Rattle.std.specs.Prelude.{ℕ, ◌+◌, ◌*◌, ◌≤◌, ◌<◌, ◌≡◌, List, length}
use Rattle.base_forest.specs.Roots.{parent, follow, root, hang}

-- parents are in range, and following them d times ends at a root
pub record Forest (d : ℕ) (p : List ℕ) : Type 0 where
  pub inside : (i : ℕ) → i < length p → parent p i < length p
  pub ends : (i : ℕ) → i < length p → parent p (follow d p i) ≡ follow d p i

-- q has the roots of p, at no greater depth
pub record Flatter (p q : List ℕ) : Type 0 where
  pub lengths : length q ≡ length p
  pub roots : (k : ℕ) → k < length p → root q k ≡ root p k
  pub depth : (d : ℕ) → Forest d p → Forest d q

-- what finding the root r of i makes of the parents p
pub record RootFound (p : List ℕ) (i r : ℕ) (p' : List ℕ) : Type 0 where
  pub is : r ≡ root p i
  pub inside : r < length p'
  pub kept : Flatter p p'

-- p and q lead each number to the same root, within d steps
pub record SameRoots (d : ℕ) (p q : List ℕ) : Type 0 where
  pub lengths : length p ≡ length q
  pub left : Forest d p
  pub right : Forest d q
  pub roots : (k : ℕ) → k < length p → root p k ≡ root q k

-- what hanging the root of i under that of j makes of the parents p: where they had the roots of q,
-- they now have those of hang q i j
pub record Hung (p : List ℕ) (i j : ℕ) (p' : List ℕ) : Type 0 where
  pub lengths : length p' ≡ length p
  pub depth : (d : ℕ) → Forest d p → Forest (d + 1) p'
  pub roots : (d : ℕ) (q : List ℕ) → d + 1 ≤ 2 * length p → SameRoots d p q
      → SameRoots (d + 1) p' (hang q i j)
