-- The components of a plan: the members with a root, in key order, and the parts that they are cut
-- into. Assumes nothing of the blocks but what a law takes as an argument.
use Prim.Native.Nat.{ℕ, zero, suc, zero-le, ◌+◌, ◌≤◌, ◌<◌}
use mathlib.Core.Path.{◌≡◌, refl, ap, ap₂, ◌∙◌}
use mathlib.Core.Bool.{Bool, true, false, cond}
use mathlib.Core.List.Memᴰ
use mathlib.Core.List.{List, [], ◌∷◌, ◌++◌, map, flatten, Memᴰ}
use mathlib.Core.Logic.{◌⊎◌, inl, inr}
use native.Mathlib.Nat.{zero-add, le_refl}
use native.Mathlib.Decide.{ℕ_discrete}
use native.Mathlib.Omega.{arith}
use borrow.Author.Tests.{eqb-true, eq-eqb, ne_eqb}
use lib.ListN.{length}
use lib.Dec.{eqb}
use Rattle.file_blocks.specs.Parse.{Block, block_key}
use Rattle.base_forest.specs.Roots.{root}
use Rattle.base_lists.specs.Lists.{range, count}
use Rattle.file_keys.specs.Order.{sort_by_key}
use Rattle.plan_groups.specs.Plan.{parents, with_root, members, parts, groups_from}
use Rattle.plan_groups.specs.Plan.{groups}
use Rattle.file_keys.proofs.Sorted.{sort_count, sort_member}
use Rattle.plan_groups.proofs.Cutting.{parts_all}
use Rattle.plan_groups.proofs.Edges.{root_block}
use Rattle.base_lists.proofs.Counts.{count_append, count_here, count_other, none_counted}
use Rattle.base_lists.proofs.Counts.{flatten_append}

count_front : (b : Bool) (k : ℕ) (xs : List ℕ) → count k xs ≡ 0
    → count k (cond b (k ∷ xs) xs) ≡ cond b 1 0
count_front true k xs e = count_here k xs ∙ ap (λ (n : ℕ). 1 + n) e
count_front false k xs e = e

count_after : (b : Bool) (i k : ℕ) (xs : List ℕ) → (i ≡ k → ⊥)
    → count i (cond b (k ∷ xs) xs) ≡ count i xs
count_after true i k xs ne = count_other i k xs ne
count_after false i k xs ne = refl

-- the members of a component before they are sorted

module _ (p : List ℕ) (r : ℕ) where
  record Member (n k i : ℕ) : Type 0 where
    low : k ≤ i
    high : i < k + n
    rooted : root p i ≡ r

  members_are : (n k i : ℕ) → Memᴰ i (with_root (root p) r n k) → Member n k i
  unfolding with_root
  members_are zero k i m = absurd (Memᴰ.not-nil m)
  members_are (suc n) k i m = go (eqb (root p k) r) refl (members_are n (suc k) i) m
    where
      later : Member n (suc k) i → Member (suc n) k i
      later a =
          record { low = omega (arith, a.low); high = omega (arith, a.high); rooted = a.rooted }

      first : root p k ≡ r → (Memᴰ i (with_root (root p) r n (suc k)) → Member n (suc k) i)
          → (i ≡ k) ⊎ Memᴰ i (with_root (root p) r n (suc k)) → Member (suc n) k i
      first h ih (inl e) =
          record { low = omega arith; high = omega arith; rooted = ap (root p) e ∙ h }
      first h ih (inr l) = later (ih l)

      go : (b : Bool) → eqb (root p k) r ≡ b
          → (Memᴰ i (with_root (root p) r n (suc k)) → Member n (suc k) i)
          → Memᴰ i (cond b (k ∷ with_root (root p) r n (suc k)) (with_root (root p) r n (suc k)))
          → Member (suc n) k i
      go true h ih l = first (eqb-true _ _ h) ih (Memᴰ.cases_cons l)
      go false h ih l = later (ih l)

  -- an earlier block is no member
  members_before : (n k i : ℕ) → i < k → count i (with_root (root p) r n k) ≡ 0
  members_before n k i h = none_counted (λ m. omega (arith, (members_are n k i m).low))

  members_count : (n k i : ℕ) → k ≤ i → i < k + n
      → count i (with_root (root p) r n k) ≡ cond (eqb (root p i) r) 1 0
  unfolding with_root
  members_count zero k i l h = absurd (omega arith)
  members_count (suc n) k i l h =
      elim (ℕ_discrete i k) [
        | yes e ↦ rw e
            (count_front (eqb (root p k) r) k (with_root (root p) r n (suc k))
            (members_before n (suc k) k (le_refl _)))
        | no ne ↦ count_after (eqb (root p k) r) i k (with_root (root p) r n (suc k)) ne
            ∙ members_count n (suc k) i (omega arith) (omega arith)
      ]

-- the blocks with root r, in the order of their keys
abbrev pub component : List Block → ℕ → List ℕ
component bs r = sort_by_key (map block_key bs) (members (parents bs) r (length bs))

-- the numbers of instructions of the blocks
abbrev pub counts_of : List Block → List ℕ
counts_of bs = map (λ (b : Block). length b.instrs) bs

module _ (bs : List Block) where
  component_count : (r i : ℕ) → i < length bs
      → count i (component bs r) ≡ cond (eqb (root (parents bs) i) r) 1 0
  component_count r i h =
      sort_count (map block_key bs) i (members (parents bs) r (length bs))
      ∙ members_count (parents bs) r (length bs) 0 i zero-le (omega arith)

  -- a block of a component is a block of the list, with the component's root
  pub component_member : (r i : ℕ) → Memᴰ i (component bs r)
      → (i < length bs) × (root (parents bs) i ≡ r)
  component_member r i m =
      let is =
      members_are (parents bs) r (length bs) 0 i
      (sort_member (map block_key bs) (members (parents bs) r (length bs)) m) in
      (omega (arith, is.high), is.rooted)

  -- of some components, from component r on, the one with a block's root has the block

  components_more : (n r i : ℕ) → i < length bs
      → count i (flatten (map (component bs) (range (suc n) r)))
      ≡ cond (eqb (root (parents bs) i) r) 1 0 + count i
      (flatten (map (component bs) (range n (suc r))))
  unfolding flatten
  components_more n r i h =
      count_append i (component bs r) (flatten (map (component bs) (range n (suc r))))
      ∙ ap (λ (k : ℕ). k + count i (flatten (map (component bs) (range n (suc r)))))
      (component_count r i h)

  components_past : (n r i : ℕ) → i < length bs → root (parents bs) i < r
      → count i (flatten (map (component bs) (range n r))) ≡ 0
  unfolding flatten count
  components_past zero r i h l = refl
  components_past (suc n) r i h l = components_more n r i h
      ∙ rw (ne_eqb (root (parents bs) i) r (omega arith))
      (zero-add _ ∙ components_past n (suc r) i h (omega arith))

  components_reached : (n r i : ℕ) → i < length bs → r ≤ root (parents bs) i
      → root (parents bs) i < r + n
      → count i (flatten (map (component bs) (range n r))) ≡ 1
  components_reached zero r i h l b = absurd (omega arith)
  components_reached (suc n) r i h l b =
      components_more n r i h
      ∙ elim (ℕ_discrete (root (parents bs) i) r) [
        | yes e ↦ rw (eq-eqb _ _ e)
            (ap (λ (k : ℕ). 1 + k) (components_past n (suc r) i h (omega arith)))
        | no ne ↦ rw (ne_eqb _ _ ne)
            (zero-add _ ∙ components_reached n (suc r) i h (omega arith) (omega arith))
      ]

  -- every block stands once in the components
  pub components_once : (i : ℕ) → i < length bs
      → count i (flatten (map (component bs) (range (length bs) 0))) ≡ 1
  components_once i h =
      components_reached (length bs) 0 i h zero-le (omega (arith, root_block bs i h))

module _ (limit : ℕ) (bs : List Block) where
  flat_from : (n r : ℕ)
      → flatten (groups_from limit bs (parents bs) n r) ≡ flatten (map (component bs) (range n r))
  unfolding groups_from flatten
  flat_from zero r = refl
  flat_from (suc n) r =
      flatten_append (parts limit (counts_of bs) [] 0 (component bs r))
      (groups_from limit bs (parents bs) n (suc r))
      ∙ ap₂ (λ (a b : List ℕ). a ++ b) (parts_all limit (counts_of bs) [] 0 (component bs r))
      (flat_from n (suc r))

  -- the groups, one after the other, are the components, one after the other
  pub groups_flat : flatten (groups limit bs) ≡ flatten (map (component bs) (range (length bs) 0))
  unfolding groups
  groups_flat = flat_from (length bs) 0

  part_from : (n r : ℕ) (g : List ℕ) → Memᴰ g (groups_from limit bs (parents bs) n r)
      → (s : ℕ) × (s < r + n) × Memᴰ g (parts limit (counts_of bs) [] 0 (component bs s))
  unfolding groups_from
  part_from zero r g m = absurd (Memᴰ.not-nil m)
  part_from (suc n) r g m =
      go (part_from n (suc r) g)
      (Memᴰ.append_cases (parts limit (counts_of bs) [] 0 (component bs r)) m)
    where
      later : (s : ℕ) × (s < suc r + n)
          × Memᴰ g (parts limit (counts_of bs) [] 0 (component bs s))
          → (s : ℕ) × (s < r + suc n)
          × Memᴰ g (parts limit (counts_of bs) [] 0 (component bs s))
      later (s, small, there) = (s, omega arith, there)

      go : (Memᴰ g (groups_from limit bs (parents bs) n (suc r))
          → (s : ℕ) × (s < suc r + n)
          × Memᴰ g (parts limit (counts_of bs) [] 0 (component bs s)))
          → Memᴰ g (parts limit (counts_of bs) [] 0 (component bs r))
          ⊎ Memᴰ g (groups_from limit bs (parents bs) n (suc r))
          → (s : ℕ) × (s < r + suc n)
          × Memᴰ g (parts limit (counts_of bs) [] 0 (component bs s))
      go ih (inl l) = (r, omega arith, l)
      go ih (inr l) = later (ih l)

  -- a group is a part of a component
  pub groups_part : (g : List ℕ) → Memᴰ g (groups limit bs)
      → (r : ℕ) × (r < length bs) × Memᴰ g (parts limit (counts_of bs) [] 0 (component bs r))
  unfolding groups
  groups_part g m =
      let there = part_from (length bs) 0 g m in (there.0, omega (arith, there.1), there.2)
