-- The group that a line shows is the number of the group that the block stands in.
-- Assumes nothing.
use Prim.Native.Nat.{ℕ, zero, suc, ◌+◌, ◌≤◌, ◌<◌}
use mathlib.Core.Path.{◌≡◌, refl, sym, ◌∙◌}
use mathlib.Core.List.{List, [], ◌∷◌, ◌++◌, flatten, Memᴰ}
use native.Mathlib.Decide.{ℕ_discrete}
use native.Mathlib.Nat.{add-zero, zero-add}
use native.Mathlib.Omega.{arith}
use borrow.Author.Tests.{eq-eqb, ne_eqb}
use lib.ListN.{length, get_or}
use Rattle.file_blocks.specs.Parse.{Block}
use Rattle.plan_groups.specs.Plan.{group_rows, rows_from, groups, plan, group_of}
use Rattle.plan_groups.proofs.GroupLaws.{groups_once}
use Rattle.base_lists.specs.Lists.{count}
use Rattle.base_lists.proofs.Counts.{count_append, count_here, count_other, counted}

module _ (i : ℕ) where
  -- the rows of a group that has the block
  group_here : (g : ℕ) (is rest : List ℕ) → 1 ≤ count i is → group_of i (group_rows g is ++ rest) ≡ g
  unfolding group_of count
  group_here g [] rest h = absurd (omega arith)
  group_here g (j ∷ is) rest h =
      elim (ℕ_discrete j i) [
        | yes e ↦ rw (eq-eqb j i e)
        | no d ↦ rw (ne_eqb j i d)
            (group_here g is rest (omega (arith, count_other i j is (λ e. d (sym e)))))
      ]

  -- the rows of a group that has it not
  elsewhere : (g : ℕ) (is rest : List ℕ) → count i is ≡ 0
      → group_of i (group_rows g is ++ rest) ≡ group_of i rest
  unfolding group_of
  elsewhere g [] rest h = refl
  elsewhere g (j ∷ is) rest h =
      elim (ℕ_discrete j i) [
        | yes e ↦ absurd (omega (arith, rw e at h, count_here i is))
        | no d ↦ rw (ne_eqb j i d)
            (elsewhere g is rest (sym (count_other i j is (λ e. d (sym e))) ∙ h))
      ]

  in_rows : (g : ℕ) (gs : List (List ℕ)) (k : ℕ) → count i (flatten gs) ≤ 1
      → 1 ≤ count i (get_or gs k []) → group_of i (rows_from g gs) ≡ g + k
  unfolding rows_from flatten count
  in_rows g [] k once h = absurd (omega arith)
  in_rows g (is ∷ gs) zero once h = group_here g is (rows_from (suc g) gs) h ∙ sym (add-zero g)
  in_rows g (is ∷ gs) (suc k) once h =
      let both = count_append i is (flatten gs) in
      let later : 1 ≤ count i (flatten gs) = some_in gs k h in
      elsewhere g is (rows_from (suc g) gs) (omega arith)
      ∙ in_rows (suc g) gs k (omega arith) h
      ∙ omega arith
    where
      some_in : (gs : List (List ℕ)) (k : ℕ) → 1 ≤ count i (get_or gs k []) → 1 ≤ count i (flatten gs)
      some_in [] k h = absurd (omega arith)
      some_in (js ∷ gs) zero h = omega (arith, count_append i js (flatten gs))
      some_in (js ∷ gs) (suc k) h = omega (arith, some_in gs k h, count_append i js (flatten gs))

pub group_listed : (limit : ℕ) (bs : List Block) (i g : ℕ) → i < length bs
    → Memᴰ i (get_or (groups limit bs) g []) → group_of i (plan limit bs) ≡ g
unfolding plan
group_listed limit bs i g h m =
    in_rows i 0 (groups limit bs) g (omega (arith, groups_once limit bs i h)) (counted m)
    ∙ zero-add g
