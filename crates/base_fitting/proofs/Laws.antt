-- A loop over pieces that writes those that fit: before it, a piece more, and its ends.
-- Assumes nothing.
use Prim.Native.Nat.{ℕ, zero, suc, ◌+◌, ◌-◌, ◌≤◌, ◌<◌}
use mathlib.Core.Path.{◌≡◌, refl, sym, ap, ap₂, ◌∙◌, subst}
use mathlib.Core.Bool.{Bool, true, false, cond}
use mathlib.Core.List.{List, [], ◌∷◌, ◌++◌, append_assoc, append-nil, cons≢nil}
use native.Mathlib.Omega.{arith}
use native.Mathlib.Decide.{dec_lt}
use borrow.Author.Tests.{lt-ltb, le-ltb}
use lib.Dec.{ltb}
use lib.ListN.{length, take, drop, set, length-append}
use lib.Seq.{take-append_seam, drop-append_seam, drop-drop, set_split}
use Rattle.base_fitting.specs.Fitting.{fitting}
use Rattle.base_fitting.specs.Steps.{total, FitSoFar, HasFront}

-- the sizes of one piece more
pub total_more : {X : Type 0} (size : X → ℕ) (xs : List X) (x : X)
    → total size (xs ++ (x ∷ [])) ≡ total size xs + size x
unfolding total
total_more size [] x = omega arith
total_more size (y ∷ ys) x = omega (arith, total_more size ys x)

module _ {X : Type 0} (size : X → ℕ) (room places : ℕ) (all : List X) where
  -- no piece yet
  pub fit_none : FitSoFar size room places all [] all
  unfolding total
  fit_none =
      record {
        same =
            ap₂ (λ (r p : ℕ). fitting size r p all)
            (let whole : room ≡ room - 0 = omega arith in whole)
            (let whole : places ≡ places - 0 = omega arith in whole);
      }

  -- no place is left
  no_places : (r : ℕ) (xs : List X) → fitting size r 0 xs ≡ []
  unfolding fitting
  no_places r [] = refl
  no_places r (x ∷ xs) = refl

  -- the first fits
  first_fits : (r p : ℕ) (x : X) (xs : List X) → size x ≤ r
      → fitting size r (suc p) (x ∷ xs) ≡ x ∷ fitting size (r - size x) p xs
  unfolding fitting
  first_fits r p x xs h =
      ap (λ (b : Bool). cond b [] (x ∷ fitting size (r - size x) p xs)) (le-ltb _ _ h)

  -- the first does not
  first_over : (r p : ℕ) (x : X) (xs : List X) → r < size x
      → fitting size r (suc p) (x ∷ xs) ≡ []
  unfolding fitting
  first_over r p x xs h =
      ap (λ (b : Bool). cond b [] (x ∷ fitting size (r - size x) p xs)) (lt-ltb _ _ h)

  module _ {made : List X} where
    -- a piece that fits
    pub fit_more : {x : X} {rest : List X} → FitSoFar size room places all made (x ∷ rest)
        → length made < places → total size made + size x ≤ room
        → FitSoFar size room places all (made ++ (x ∷ [])) rest
    fit_more {x} {rest} so place fits =
        record {
          same =
              so.same
              ∙ ap (λ (p : ℕ). made ++ fitting size (room - total size made) p (x ∷ rest))
              (let one : places - length made ≡ suc (places - suc (length made)) = omega arith in one)
              ∙ ap (λ (xs : List X). made ++ xs)
              (first_fits _ (places - suc (length made)) x rest (omega arith))
              ∙ sym (append_assoc made (x ∷ []) _)
              ∙ ap₂ (λ (r p : ℕ). (made ++ (x ∷ [])) ++ fitting size r p rest)
              (let left : room - total size made - size x
              ≡ room - total size (made ++ (x ∷ [])) = omega (arith, total_more size made x) in left)
              (let count : places - suc (length made)
              ≡ places - length (made ++ (x ∷ [])) =
              omega (arith, length-append made (x ∷ [])) in count);
        }

    -- all places are taken
    pub fit_full : {rest : List X} → FitSoFar size room places all made rest
        → places ≤ length made → fitting size room places all ≡ made
    fit_full {rest} so full =
        so.same
        ∙ ap (λ (p : ℕ). made ++ fitting size (room - total size made) p rest)
        (let over : places - length made ≡ 0 = omega arith in over)
        ∙ ap (λ (xs : List X). made ++ xs) (no_places _ rest)
        ∙ append-nil made

    -- the next does not fit
    pub fit_over : {x : X} {rest : List X} → FitSoFar size room places all made (x ∷ rest)
        → room - total size made < size x → fitting size room places all ≡ made
    fit_over {x} {rest} so over =
        elim (dec_lt (length made) places) [
          | yes h ↦ so.same
              ∙ ap (λ (p : ℕ). made ++ fitting size (room - total size made) p (x ∷ rest))
              (let one : places - length made ≡ suc (places - suc (length made)) = omega arith in one)
              ∙ ap (λ (xs : List X). made ++ xs) (first_over _ _ x rest over)
              ∙ append-nil made
          | no d ↦ fit_full so (omega arith)
        ]

    -- no piece is left
    pub fit_all : FitSoFar size room places all made [] → fitting size room places all ≡ made
    unfolding fitting
    fit_all so = so.same ∙ append-nil made

-- what fits has room, and a place each
pub fit_room : {X : Type 0} (size : X → ℕ) (room places : ℕ) (xs : List X)
    → total size (fitting size room places xs) ≤ room
unfolding fitting total
fit_room size room places [] = omega arith
fit_room size room zero (x ∷ xs) = omega arith
fit_room size room (suc places) (x ∷ xs) =
    elim (dec_lt room (size x)) [
      | yes h ↦ subst (λ (b : Bool). total size (cond b [] (x ∷ fitting size (room - size x) places xs))
          ≤ room) (sym (lt-ltb _ _ h)) (omega arith)
      | no d ↦ subst (λ (b : Bool). total size (cond b [] (x ∷ fitting size (room - size x) places xs))
          ≤ room) (sym (le-ltb room (size x) (omega arith)))
          (omega (arith, fit_room size (room - size x) places xs))
    ]

pub fit_places : {X : Type 0} (size : X → ℕ) (room places : ℕ) (xs : List X)
    → length (fitting size room places xs) ≤ places
unfolding fitting
fit_places size room places [] = omega arith
fit_places size room zero (x ∷ xs) = omega arith
fit_places size room (suc places) (x ∷ xs) =
    go (ltb room (size x)) (fit_places size (room - size x) places xs)
  where
    go : (b : Bool) → length (fitting size (room - size x) places xs) ≤ places
        → length (cond b [] (x ∷ fitting size (room - size x) places xs)) ≤ suc places
    go true h = omega arith
    go false h = omega arith

-- where nothing fits, there is no room for the first, or no place
pub fit_nothing : {X : Type 0} (size : X → ℕ) (room places : ℕ) (x : X) (xs : List X)
    → fitting size room places (x ∷ xs) ≡ [] → size x ≤ room → places ≡ 0
unfolding fitting
fit_nothing size room zero x xs e h = refl
fit_nothing size room (suc places) x xs e h =
    absurd (cons≢nil (sym (first_fits size 0 0 [] room places x xs h) ∙ e))

-- nothing in the front yet
pub front_none : {X : Type 0} (xs : List X) → HasFront [] xs xs
front_none xs = record { same = refl }

-- a part is written after the front
pub front_more : {X : Type 0} (front more : List X) {xs ys part : List X} → HasFront front xs ys
    → part ≡ more ++ drop (length more) (drop (length front) ys)
    → HasFront (front ++ more) xs (take (length front) ys ++ part)
front_more {X} front more {xs} {ys} {part} h put =
    record {
      same =
          ap₂ (λ (a b : List X). a ++ b)
          (ap (take (length front)) h.same ∙ take-append_seam front _)
          (put
          ∙ ap (λ (zs : List X). more ++ drop (length more) (drop (length front) zs)) h.same
          ∙ ap (λ (zs : List X). more ++ drop (length more) zs) (drop-append_seam front _)
          ∙ ap (λ (zs : List X). more ++ zs) (drop-drop (length more) (length front) xs)
          ∙ ap (λ (k : ℕ). more ++ drop k xs) (sym (length-append front more)))
          ∙ sym (append_assoc front more _);
    }

-- an element is set after the front
pub front_set : {X : Type 0} (front : List X) (a : X) {xs ys : List X} → HasFront front xs ys
    → length front < length ys → HasFront (front ++ (a ∷ [])) xs (set ys (length front) a)
front_set {X} front a {xs} {ys} h inside =
    subst (HasFront (front ++ (a ∷ [])) xs) (sym (set_split ys (length front) a inside))
    (front_more front (a ∷ []) h
    (ap (λ (zs : List X). a ∷ zs)
    (ap (λ (k : ℕ). drop k ys) (let next : suc (length front) ≡ length front + 1 = omega arith in next)
    ∙ sym (drop-drop 1 (length front) ys))))

-- pieces that take no room
pub total_none : {X : Type 0} (xs : List X) → total (λ (x : X). 0) xs ≡ 0
unfolding total
total_none [] = refl
total_none (x ∷ xs) = omega (arith, total_none xs)
