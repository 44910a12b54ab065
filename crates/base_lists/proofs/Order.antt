-- Lists in an order: each number stands so to each later one.
-- Assumes nothing.
use Prim.Native.Nat.{ℕ, zero, suc, ◌≤◌, ◌<◌}
use mathlib.Core.Path.{◌≡◌, refl}
use mathlib.Core.List.Memᴰ
use mathlib.Core.List.{List, [], ◌∷◌, ◌++◌, Memᴰ}
use native.Mathlib.Nat.{le_trans, le_of_suc-le-suc}
use native.Mathlib.Omega.{arith}
use lib.ListN.{length, get_or}
use Rattle.base_lists.specs.Lists.{count}
use Rattle.base_lists.proofs.Counts.{count_here, count_tail, counted}
use Rattle.base_lists.proofs.Places.{member_at}

-- each number of a list stands so to each later one
abbrev pub InOrder : (ℕ → ℕ → Type 0) → List ℕ → Type 0
InOrder R [] = Unit {0}
InOrder R (x ∷ xs) = ((y : ℕ) → Memᴰ y xs → R x y) × InOrder R xs

module _ (R : ℕ → ℕ → Type 0) where
  -- the same by places in the list
  pub order_at : (xs : List ℕ) → InOrder R xs → (a b : ℕ) → a < b → b < length xs
      → R (get_or xs a 0) (get_or xs b 0)
  order_at [] o a b l h = absurd (omega arith)
  order_at (x ∷ xs) o a zero l h = absurd (omega arith)
  order_at (x ∷ xs) o zero (suc b) l h = o.0 (get_or xs b 0) (member_at xs b 0 (le_of_suc-le-suc h))
  order_at (x ∷ xs) o (suc a) (suc b) l h =
      order_at xs o.1 a b (le_of_suc-le-suc l) (le_of_suc-le-suc h)

  -- the front of a list in order
  pub order_front : (xs ys : List ℕ) → InOrder R (xs ++ ys) → InOrder R xs
  order_front [] ys o = tt
  order_front (x ∷ xs) ys o = (λ y m. o.0 y (Memᴰ.append_left ys m), order_front xs ys o.1)

  -- and the rest
  pub order_back : (xs ys : List ℕ) → InOrder R (xs ++ ys) → InOrder R ys
  order_back [] ys o = o
  order_back (x ∷ xs) ys o = order_back xs ys o.1

  -- an order that implies another among the numbers of the list
  pub order_weaker : (S : ℕ → ℕ → Type 0) (xs : List ℕ)
      → ((x y : ℕ) → Memᴰ x xs → Memᴰ y xs → R x y → S x y) → InOrder R xs → InOrder S xs
  order_weaker S [] w o = tt
  order_weaker S (x ∷ xs) w o = (
    λ y m. w x y (Memᴰ.head refl) (Memᴰ.tail m) (o.0 y m),
    order_weaker S xs
        (λ a b m n. w a b (Memᴰ.tail m) (Memᴰ.tail n)) o.1,
  )

-- numbers that stand once are different
pub once_apart : (xs : List ℕ) → ((i : ℕ) → count i xs ≤ 1) → InOrder (λ i j. i ≡ j → ⊥) xs
once_apart [] few = tt
once_apart (x ∷ xs) few = (
  λ y m e. omega (arith, few x, count_here x xs, counted (Memᴰ.cast e m)),
  once_apart xs
      (λ i. le_trans (count_tail i x xs) (few i)),
)
