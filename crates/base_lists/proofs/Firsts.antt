-- The first of a list that passes a test, as it is found and as a fact.
-- Assumes nothing.
use Prim.Native.Nat.{ℕ}
use mathlib.Core.Path.{◌≡◌, refl, sym, ap, ◌∙◌}
use mathlib.Core.Bool.{Bool, true, false, cond}
use mathlib.Core.List.Memᴰ
use mathlib.Core.List.{List, [], ◌∷◌, ◌++◌, Memᴰ}
use mathlib.Core.Logic.{⊎_elim}
use mathlib.Core.Option.{some}
use native.Mathlib.Omega.{arith}
use Rattle.base_lists.specs.Lists.{first_of, IsFirst}

module _ {A : Type 0} (p : A → Bool) where
  found_first : (before : List A) (x : A) (after : List A) → p x ≡ true
      → ((y : A) → Memᴰ y before → p y ≡ false) → first_of p (before ++ (x ∷ after)) ≡ some x
  found_first [] x after e kept = rw e
  found_first (y ∷ before) x after e kept =
      rw (kept y (Memᴰ.head refl))
      (found_first before x after e (λ z m. kept z (Memᴰ.tail m)))

  -- the first is the one found
  pub is_found : (xs : List A) (x : A) → IsFirst p xs x → first_of p xs ≡ some x
  is_found xs x a =
      ap (first_of p) a.placed ∙ found_first a.before x a.after a.here a.earlier

  -- and the one found is the first
  pub first_found : (xs : List A) (x : A) → first_of p xs ≡ some x → IsFirst p xs x
  first_found [] x e = absurd (let z : ◌≡◌ {A = ℕ} 0 1 = cc in omega arith)
  first_found (y ∷ ys) x e = go (p y) refl (first_found ys x) e
    where
      go : (b : Bool) → p y ≡ b → (first_of p ys ≡ some x → IsFirst p ys x)
          → cond b (some y) (first_of p ys) ≡ some x → IsFirst p (y ∷ ys) x
      go true h rest e' =
          let same : y ≡ x = cc in
          record {
            before = [];
            after = ys;
            placed = ap (λ (s : A). s ∷ ys) same;
            here = ap p (sym same) ∙ h;
            earlier = λ s m. absurd (Memᴰ.not-nil m);
          }
      go false h rest e' =
          let t = rest e' in
          record {
            before = y ∷ t.before;
            after = t.after;
            placed = ap (λ (l : List A). y ∷ l) t.placed;
            here = t.here;
            earlier =
                λ s m. ⊎_elim (λ (same : s ≡ y). ap p same ∙ h)
                (λ (m' : Memᴰ s t.before). t.earlier s m') (Memᴰ.cases_cons m);
          }
