-- How often a number stands in a list, and in one of several lists.
-- Assumes nothing.
use Prim.Native.Nat.{ℕ, ◌+◌, ◌≤◌}
use mathlib.Core.Path.{◌≡◌, refl, sym, ap, ◌∙◌, subst}
use mathlib.Core.Bool.{cond}
use mathlib.Core.List.Memᴰ
use mathlib.Core.List.{List, [], ◌∷◌, ◌++◌, append_assoc, flatten, Memᴰ}
use mathlib.Core.Logic.{◌⊎◌, inl, inr}
use native.Mathlib.Nat.{zero-add, add_assoc}
use native.Mathlib.Decide.{ℕ_discrete, dec_le}
use native.Mathlib.Omega.{arith}
use borrow.Author.Tests.{eq-eqb, ne_eqb}
use lib.Dec.{eqb}
use Rattle.base_lists.specs.Lists.{count}

-- the count of two lists is the sum of theirs
pub count_append : (i : ℕ) (xs ys : List ℕ) → count i (xs ++ ys) ≡ count i xs + count i ys
unfolding count
count_append i [] ys = sym (zero-add _)
count_append i (x ∷ xs) ys = ap (λ (n : ℕ). cond (eqb i x) 1 0 + n) (count_append i xs ys)
    ∙ sym (add_assoc (cond (eqb i x) 1 0) _ _)

-- one element more, which is the number
pub count_here : (i : ℕ) (xs : List ℕ) → count i (i ∷ xs) ≡ 1 + count i xs
unfolding count
count_here i xs = rw (eq-eqb i i refl)

-- one element more, which is another number
pub count_other : (i j : ℕ) (xs : List ℕ) → (i ≡ j → ⊥) → count i (j ∷ xs) ≡ count i xs
unfolding count
count_other i j xs ne = rw (ne_eqb i j ne) (zero-add _)

-- one element more takes nothing away
pub count_tail : (i j : ℕ) (xs : List ℕ) → count i xs ≤ count i (j ∷ xs)
unfolding count
count_tail i j xs = omega arith

-- one element less on both sides
pub count_cancel : (i j : ℕ) (xs ys : List ℕ) → count i (j ∷ xs) ≤ count i (j ∷ ys)
    → count i xs ≤ count i ys
unfolding count
count_cancel i j xs ys h = omega arith

-- a number that stands in a list is counted
pub counted : {i : ℕ} {xs : List ℕ} → Memᴰ i xs → 1 ≤ count i xs
unfolding count
counted {i} (Memᴰ.head {x = x} e) = rw (eq-eqb i x e) (omega arith)
counted {i} (Memᴰ.tail {x = x} {xs = xs} m) = omega (arith, counted m)

-- and only such a number
pub stands : (i : ℕ) (xs : List ℕ) → 1 ≤ count i xs → Memᴰ i xs
unfolding count
stands i [] h = absurd (omega arith)
stands i (x ∷ xs) h =
    elim (ℕ_discrete i x) [
      | yes e ↦ Memᴰ.head e
      | no ne ↦ Memᴰ.tail (stands i xs (subst (λ (n : ℕ). 1 ≤ n) (count_other i x xs ne) h))
    ]

-- a number that does not stand in a list is not counted
pub none_counted : {i : ℕ} {xs : List ℕ} → (Memᴰ i xs → ⊥) → count i xs ≡ 0
none_counted {i} {xs} h =
    elim (dec_le 1 (count i xs)) [
      | yes l ↦ absurd (h (stands i xs l))
      | no n ↦ omega arith
    ]

-- the lists of two lists of lists, one after the other
pub flatten_append : (gs hs : List (List ℕ)) → flatten (gs ++ hs) ≡ flatten gs ++ flatten hs
unfolding flatten
flatten_append [] hs = refl
flatten_append (g ∷ gs) hs = ap (λ (l : List ℕ). g ++ l) (flatten_append gs hs)
    ∙ sym (append_assoc g (flatten gs) (flatten hs))

-- one of several lists holds a number no more often than all of them do
pub count_in : (i : ℕ) {g : List ℕ} {gs : List (List ℕ)} → Memᴰ g gs
    → count i g ≤ count i (flatten gs)
unfolding flatten
count_in i (Memᴰ.head {x = x} {xs = gs} e) =
    rw (e, count_append i x (flatten gs)) (omega arith)
count_in i (Memᴰ.tail {x = x} {xs = gs} m) =
    rw (count_append i x (flatten gs)) (omega (arith, count_in i m))

-- a number that stands in several lists at most once stands in one of them only
pub one_list : (i : ℕ) {g h : List ℕ} {gs : List (List ℕ)} → count i (flatten gs) ≤ 1
    → Memᴰ g gs → Memᴰ h gs
    → Memᴰ i g → Memᴰ i h → g ≡ h
unfolding flatten
one_list i {g} {h} few (Memᴰ.head {x = x} {xs = gs} e) n a b = go (Memᴰ.cases_cons n)
  where
    go : (h ≡ x) ⊎ Memᴰ h gs → g ≡ h
    go (inl e') = e ∙ sym e'
    go (inr n') =
        absurd (omega (
          arith,
          few,
          count_append i x (flatten gs),
          ap (count i) e,
          counted a,
          counted b,
          count_in i
              n',
        ))
one_list i {g} {h} few (Memᴰ.tail {x = x} {xs = gs} m) n a b =
    go (one_list i (omega (arith, few, count_append i x (flatten gs))) m) (Memᴰ.cases_cons n)
  where
    go : (Memᴰ h gs → Memᴰ i g → Memᴰ i h → g ≡ h) → (h ≡ x) ⊎ Memᴰ h gs → g ≡ h
    go ih (inl e') =
        absurd (omega (
          arith,
          few,
          count_append i x (flatten gs),
          ap (count i) e',
          counted a,
          counted b,
          count_in
              i m,
        ))
    go ih (inr n') = ih n' a b

-- a number that stands in several lists stands in one of them
pub some_list : (i : ℕ) (gs : List (List ℕ)) → 1 ≤ count i (flatten gs)
    → (g : List ℕ) × Memᴰ g gs × Memᴰ i g
unfolding flatten count
some_list i [] h = absurd (omega arith)
some_list i (g ∷ gs) h =
    elim (dec_le 1 (count i g)) [
      | yes l ↦ (g, Memᴰ.head refl, stands i g l)
      | no n ↦
          (let rest = some_list i gs (omega (arith, count_append i g (flatten gs))) in
          (rest.0, Memᴰ.tail rest.1, rest.2))
    ]
