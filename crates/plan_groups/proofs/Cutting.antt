-- Cutting into parts: what it keeps of a list of block numbers.
-- Assumes nothing.
use Prim.Native.Nat.{ℕ, zero-le, ◌+◌, ◌≤◌}
use mathlib.Core.Path.{◌≡◌, refl, sym, ap, ◌∙◌, subst}
use mathlib.Core.Bool.{Bool, true, false, not, cond, ◌&&◌, and-true, and-false, true≢false}
use mathlib.Core.List.Memᴰ
use mathlib.Core.List.{List, [], ◌∷◌, ◌++◌, append_assoc, flatten, Memᴰ}
use mathlib.Core.Logic.{◌⊎◌, inl, inr}
use native.Mathlib.Nat.{zero-add, add-zero}
use native.Mathlib.Omega.{arith}
use borrow.Author.Tests.{ltb-false}
use lib.ListN.{length, get_or}
use lib.Dec.{ltb}
use Rattle.plan_groups.specs.Plan.{as_parts, parts}
use Rattle.base_lists.specs.Lists.{is_empty, count}
use Rattle.base_lists.proofs.Counts.{count_here, count_cancel, stands}
use Rattle.base_lists.proofs.Pieces.{Piece, flatten_piece}

-- the instructions of some blocks in all, where `counts` has those of each block
unfoldable pub instructions : List ℕ → List ℕ → ℕ
instructions counts [] = 0
instructions counts (i ∷ is) = get_or counts i 0 + instructions counts is

-- the instructions of two names of blocks
pub instructions_append : (counts is js : List ℕ)
    → instructions counts (is ++ js) ≡ instructions counts is + instructions counts js
unfolding instructions
instructions_append counts [] js = sym (zero-add _)
instructions_append counts (i ∷ is) js = omega (arith, instructions_append counts is js)

-- a list without one of its numbers
record Without (counts : List ℕ) (i : ℕ) (xs : List ℕ) : Type 0 where
  rest : List ℕ
  others : (x : ℕ) → count x xs ≡ count x (i ∷ rest)
  fewer : instructions counts xs ≡ get_or counts i 0 + instructions counts rest

without : (counts : List ℕ) {i : ℕ} {xs : List ℕ} → Memᴰ i xs → Without counts i xs
unfolding count instructions
without counts {i} (Memᴰ.head {x = x} {xs = xs} e) =
    record {
      rest = xs;
      others = λ y. ap (λ (k : ℕ). count y (k ∷ xs)) (sym e);
      fewer = ap (λ (k : ℕ). instructions counts (k ∷ xs)) (sym e);
    }
without counts {i} (Memᴰ.tail {x = x} {xs = xs} m) =
    let w = without counts m in
    record {
      rest = x ∷ w.rest;
      others = λ y. omega (arith, w.others y);
      fewer = omega (arith, w.fewer);
    }

-- a way through some blocks that comes to none of them more often than a list holds it has no more
-- instructions than the list
pub instructions_within : (counts way g : List ℕ) → ((i : ℕ) → count i way ≤ count i g)
    → instructions counts way ≤ instructions counts g
unfolding instructions
instructions_within counts [] g h = zero-le
instructions_within counts (i ∷ way) g h =
    let w = without counts (stands i g (omega (arith, h i, count_here i way))) in
    omega (
      arith,
      w.fewer,
      instructions_within counts way w.rest
          (λ x. count_cancel x i way w.rest (omega (arith, w.others x, h x))),
    )

module _ (limit : ℕ) (counts : List ℕ) where
  -- a part has a block, and at most `limit` instructions where it has several
  pub record Fits (g : List ℕ) : Type 0 where
    pub some : 1 ≤ length g
    pub small : 2 ≤ length g → instructions counts g ≤ limit

  -- what holds of the part that is being filled, and of its total
  record Filling (part : List ℕ) (total : ℕ) : Type 0 where
    sum : instructions counts part ≡ total
    small : 2 ≤ length part → total ≤ limit

  -- the parts of a list are the list
  pub parts_all : (part : List ℕ) (total : ℕ) (is : List ℕ)
      → flatten (parts limit counts part total is) ≡ part ++ is
  unfolding parts flatten
  parts_all [] total [] = refl
  parts_all (x ∷ xs) total [] = refl
  parts_all part total (i ∷ is) =
      go (ltb limit (total + get_or counts i 0) && not (is_empty part))
      (parts_all (i ∷ []) (get_or counts i 0) is)
      (parts_all (part ++ (i ∷ [])) (total + get_or counts i 0) is)
    where
      go : (b : Bool) → flatten (parts limit counts (i ∷ []) (get_or counts i 0) is) ≡ (i ∷ []) ++ is
          → flatten (parts limit counts (part ++ (i ∷ [])) (total + get_or counts i 0) is)
          ≡ part ++ (i ∷ []) ++ is
          → flatten
          (cond b (part ∷ parts limit counts (i ∷ []) (get_or counts i 0) is)
          (parts limit counts (part ++ (i ∷ [])) (total + get_or counts i 0) is))
          ≡ part ++ (i ∷ is)
      go true e e' = ap (λ (l : List ℕ). part ++ l) e
      go false e e' = e' ∙ append_assoc part (i ∷ []) is

  filling_none : Filling [] 0
  unfolding instructions
  filling_none = record { sum = refl; small = λ h. absurd (omega arith) }

  filling_one : (i : ℕ) → Filling (i ∷ []) (get_or counts i 0)
  unfolding instructions
  filling_one i = record { sum = add-zero _; small = λ h. absurd (omega arith) }

  -- a block that does not push the part over the limit, or comes first
  filling_more : (part : List ℕ) (total i : ℕ) → Filling part total
      → (ltb limit (total + get_or counts i 0) && not (is_empty part)) ≡ false
      → Filling (part ++ (i ∷ [])) (total + get_or counts i 0)
  unfolding instructions
  filling_more [] total i f e = subst (Filling (i ∷ [])) (omega (arith, f.sum)) (filling_one i)
  filling_more (x ∷ xs) total i f e =
      record {
        sum = omega (arith, instructions_append counts (x ∷ xs) (i ∷ []), f.sum);
        small = λ h. ltb-false _ _ (sym (and-true _) ∙ e);
      }

  fits_part : (part : List ℕ) (total : ℕ) → Filling part total → 1 ≤ length part → Fits part
  fits_part part total f h = record { some = h; small = λ l. rw f.sum (f.small l) }

  fits_close : (part : List ℕ) (total : ℕ) → Filling part total → (g : List ℕ)
      → Memᴰ g (as_parts part) → Fits g
  fits_close [] total f g m = absurd (Memᴰ.not-nil m)
  fits_close (x ∷ xs) total f g m =
      subst Fits (sym (Memᴰ.eq_of_singleton m)) (fits_part (x ∷ xs) total f (omega arith))

  closes_some : (part : List ℕ) (over : Bool) → (over && not (is_empty part)) ≡ true
      → 1 ≤ length part
  closes_some [] over e = absurd (true≢false (sym e ∙ and-false over))
  closes_some (x ∷ xs) over e = omega arith

  parts_fit : (part : List ℕ) (total : ℕ) (is : List ℕ) → Filling part total → (g : List ℕ)
      → Memᴰ g (parts limit counts part total is) → Fits g
  unfolding parts
  parts_fit part total [] f g m = fits_close part total f g m
  parts_fit part total (i ∷ is) f g m =
      go (ltb limit (total + get_or counts i 0) && not (is_empty part)) refl
      (parts_fit (i ∷ []) (get_or counts i 0) is (filling_one i) g)
      (λ f'. parts_fit (part ++ (i ∷ [])) (total + get_or counts i 0) is f' g) m
    where
      closed : 1 ≤ length part
          → (Memᴰ g (parts limit counts (i ∷ []) (get_or counts i 0) is) → Fits g)
          → (g ≡ part) ⊎ Memᴰ g (parts limit counts (i ∷ []) (get_or counts i 0) is) → Fits g
      closed h ih (inl e) = subst Fits (sym e) (fits_part part total f h)
      closed h ih (inr n) = ih n

      go : (b : Bool) → (ltb limit (total + get_or counts i 0) && not (is_empty part)) ≡ b
          → (Memᴰ g (parts limit counts (i ∷ []) (get_or counts i 0) is) → Fits g)
          → (Filling (part ++ (i ∷ [])) (total + get_or counts i 0)
          → Memᴰ g (parts limit counts (part ++ (i ∷ [])) (total + get_or counts i 0) is)
          → Fits g)
          → Memᴰ g
          (cond b (part ∷ parts limit counts (i ∷ []) (get_or counts i 0) is)
          (parts limit counts (part ++ (i ∷ [])) (total + get_or counts i 0) is)) → Fits g
      go true e ih ih' n =
          closed (closes_some part (ltb limit (total + get_or counts i 0)) e) ih
          (Memᴰ.cases_cons n)
      go false e ih ih' n = ih' (filling_more part total i f e) n

  -- a part of a list fits
  pub part_fits : (is g : List ℕ) → Memᴰ g (parts limit counts [] 0 is) → Fits g
  part_fits is g m = parts_fit [] 0 is filling_none g m

  -- and stands in the list in one piece
  pub part_piece : (is g : List ℕ) → Memᴰ g (parts limit counts [] 0 is) → Piece g is
  part_piece is g m = subst (Piece g) (parts_all [] 0 is) (flatten_piece m)
