-- Steps: lists of members in lent numbers, for each component the first member, for each member the
-- next.
use Rattle.std.specs.Prelude.{ℕ, ◌+◌, ◌*◌, ◌<◌, ◌≤◌, ◌≡◌, cond, length, get_or, set, take, eqb}
use mathlib.Core.List.{List, [], ◌∷◌, Memᴰ}
use Rattle.base_lists.specs.Lists.{count}

-- of some blocks the first whose root is r; n where there is none
unfoldable pub seek : List ℕ → ℕ → ℕ → List ℕ → ℕ
seek roots r n [] = n
seek roots r n (i ∷ is) = cond (eqb (get_or roots i 0) r) i (seek roots r n is)

-- what stands behind block h among some blocks
unfoldable pub behind : ℕ → List ℕ → List ℕ
behind h [] = []
behind h (i ∷ is) = cond (eqb i h) is (behind h is)

-- some numbers are those of all n blocks, each once
pub record AllOnce (n : ℕ) (order : List ℕ) : Type 0 where
  pub long : length order ≡ n
  pub inside : (i : ℕ) → Memᴰ i order → i < n
  pub all : (i : ℕ) → i < n → Memᴰ i order
  pub once : (i : ℕ) → count i order ≤ 1

-- the first m numbers of quarter 3 are n, and no other number changed
pub record Filled (n m : ℕ) (work work' : List ℕ) : Type 0 where
  pub same : length work' ≡ length work
  pub full : (r : ℕ) → r < m → get_or work' (3 * n + r) 0 ≡ n
  pub before : (k : ℕ) → k < 3 * n → get_or work' k 0 ≡ get_or work k 0
  pub after : (k : ℕ) → 3 * n + m ≤ k → get_or work' k 0 ≡ get_or work k 0

-- the work numbers after block i was put in front of its component
abbrev pub link_one : ℕ → ℕ → List ℕ → List ℕ
link_one n i work =
    set (set work (n + i) (get_or work (3 * n + get_or work (2 * n + i) 0) 0))
    (3 * n + get_or work (2 * n + i) 0) i

-- quarter 2 has these roots
abbrev pub HasRoots : ℕ → List ℕ → List ℕ → Type 0
HasRoots n roots work = (i : ℕ) → i < n → get_or work (2 * n + i) 0 ≡ get_or roots i 0

-- the roots in quarter 2 are numbers of blocks
abbrev pub RootsInside : ℕ → List ℕ → Type 0
RootsInside n work = (i : ℕ) → i < n → get_or work (2 * n + i) 0 < n

-- some blocks are linked: quarter 1 has the next one with its root for each of them, quarter 3 the
-- first one with each root
pub record Linked (roots : List ℕ) (n : ℕ) (is work : List ℕ) : Type 0 where
  pub next : (j : ℕ) → Memᴰ j is
      → get_or work (n + j) 0 ≡ seek roots (get_or roots j 0) n (behind j is)
  pub first : (r : ℕ) → r < n → get_or work (3 * n + r) 0 ≡ seek roots r n is

-- no number outside quarters 1 and 3 changed
pub record Outside (n : ℕ) (work work' : List ℕ) : Type 0 where
  pub same : length work' ≡ length work
  pub before : (k : ℕ) → k < n → get_or work' k 0 ≡ get_or work k 0
  pub middle : (k : ℕ) → 2 * n ≤ k → k < 3 * n → get_or work' k 0 ≡ get_or work k 0
  pub after : (k : ℕ) → 4 * n ≤ k → get_or work' k 0 ≡ get_or work k 0

-- all members are linked in the order that quarter 0 had, by whichever roots quarter 2 had
abbrev pub AllLinked : ℕ → List ℕ → List ℕ → Type 0
AllLinked n work work' = (roots : List ℕ) → HasRoots n roots work
    → Linked roots n (take n work) work'
