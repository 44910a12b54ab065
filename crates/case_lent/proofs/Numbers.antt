-- The numbers of a list of cells, one by one.
use Rattle.std.proofs.Common.{◌≡◌, ℕ, zero, suc, ◌<◌, List, [], ◌∷◌, length, get_or, sym, ap, ◌∙◌, arith}

module _ {A : Type 0} (one : A → ℕ) (all : List A → List ℕ) (none : all [] ≡ [])
    (more : (x : A) (xs : List A) → all (x ∷ xs) ≡ one x ∷ all xs) where
  -- they are as many
  pub as_many : (xs : List A) → length (all xs) ≡ length xs
  as_many [] = ap length none
  as_many (x ∷ xs) = ap length (more x xs) ∙ ap suc (as_many xs)

  -- the one at an index is the number of the cell there
  pub at_index : (xs : List A) (i : ℕ) (d : A) → i < length xs
      → get_or (all xs) i 0 ≡ one (get_or xs i d)
  at_index [] i d h = absurd (omega (arith, h))
  at_index (x ∷ xs) zero d h = ap (λ l. get_or l 0 0) (more x xs)
  at_index (x ∷ xs) (suc i) d h =
      ap (λ l. get_or l (suc i) 0) (more x xs) ∙ at_index xs i d (omega (arith, h))

  -- the same, where the number is known
  pub at_place : (xs : List A) (i : ℕ) (x : A) (n : ℕ) → i < length xs
      → x ≡ get_or xs i x → n ≡ one x → get_or (all xs) i 0 ≡ n
  at_place xs i x n h is number = at_index xs i x h ∙ ap one (sym is) ∙ sym number
