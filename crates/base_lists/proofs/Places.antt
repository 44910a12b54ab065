-- What stands at the places of a list, and of what a function makes of it.
-- Assumes nothing.
use Prim.Native.Nat.{ℕ, zero, suc, suc-le-suc, ◌≤◌, ◌<◌}
use mathlib.Core.Path.{◌≡◌, refl, sym}
use mathlib.Core.List.{List, [], ◌∷◌, map, Memᴰ}
use mathlib.Core.Option.{none, some}
use native.Mathlib.Nat.{le_of_suc-le-suc, not-suc-le-zero}
use native.Mathlib.Omega.{arith}
use lib.ListN.{length, get_or, get_elem?}

-- what stands at a place is in the list
pub member_at : {A : Type 0} (xs : List A) (i : ℕ) (d : A) → i < length xs
    → Memᴰ (get_or xs i d) xs
member_at [] i d h = absurd (not-suc-le-zero h)
member_at (x ∷ xs) zero d h = Memᴰ.head refl
member_at (x ∷ xs) (suc i) d h = Memᴰ.tail (member_at xs i d (le_of_suc-le-suc h))

-- what is in the list stands at a place
pub place_of : {A : Type 0} (xs : List A) (d a : A) → Memᴰ a xs
    → (i : ℕ) × (i < length xs) × (get_or xs i d ≡ a)
place_of {A = A} [] d a x' = elim x' [ ]
place_of (x ∷ xs) d a (Memᴰ.head e) = (0, omega arith, sym e)
place_of (x ∷ xs) d a (Memᴰ.tail m) =
    let r = place_of xs d a m in (suc r.0, suc-le-suc r.1, r.2)

-- what is found by its number stands there
pub found_at : {A : Type 0} (xs : List A) (i : ℕ) (d a : A) → get_elem? xs i ≡ some a
    → (i < length xs) × (get_or xs i d ≡ a)
found_at [] i d a e = absurd (let z : ◌≡◌ {A = ℕ} 0 1 = cc in omega arith)
found_at (x ∷ xs) zero d a e = (omega arith, cc)
found_at (x ∷ xs) (suc i) d a e = let r = found_at xs i d a e in (suc-le-suc r.0, r.1)

-- what a function makes of an element
pub map_at : {A B : Type 0} (f : A → B) (xs : List A) (k : ℕ) (a : A) (b : B) → k < length xs
    → get_or (map f xs) k b ≡ f (get_or xs k a)
map_at f [] k a b h = absurd (omega arith)
map_at f (x ∷ xs) zero a b h = refl
map_at f (x ∷ xs) (suc k) a b h = map_at f xs k a b (le_of_suc-le-suc h)

-- the same by its number
pub map_found : {A B : Type 0} (f : A → B) (xs : List A) (k : ℕ) (a : A) → k < length xs
    → some (f (get_or xs k a)) ≡ get_elem? (map f xs) k
map_found f [] k a h = absurd (not-suc-le-zero h)
map_found f (x ∷ xs) zero a h = refl
map_found f (x ∷ xs) (suc k) a h = map_found f xs k a (le_of_suc-le-suc h)

-- past the end there is nothing
pub map_past : {A B : Type 0} (f : A → B) (xs : List A) (k : ℕ) → length xs ≤ k
    → none ≡ get_elem? (map f xs) k
map_past f [] k h = refl
map_past f (x ∷ xs) zero h = absurd (not-suc-le-zero h)
map_past f (x ∷ xs) (suc k) h = map_past f xs k (le_of_suc-le-suc h)
