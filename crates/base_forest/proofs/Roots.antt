-- Laws of roots: at first, after a search, and after an edge.
-- Assumes nothing.
use Prim.Native.Nat.{ℕ, ◌+◌, ◌*◌, ◌≤◌, ◌<◌}
use mathlib.Core.Path.{◌≡◌, refl, sym, ◌∙◌}
use mathlib.Core.List.{List}
use native.Mathlib.Numerals.{add-one}
use native.Mathlib.Omega.{arith}
use lib.ListN.{length, length-set}
use Rattle.base_forest.specs.Forest.{Forest, Flatter}
use Rattle.base_forest.specs.Roots.{parent, follow, root, hang}
use Rattle.base_lists.specs.Lists.{range}
use Rattle.base_lists.proofs.Range.{length_range, range_own}
use Rattle.base_forest.specs.Forest.{SameRoots}
use Rattle.base_forest.proofs.Ways.{Leads, longer, end_inside, end_own, follow_own}
use Rattle.base_forest.proofs.Ways.{follow_of, way, forest, moved, hung}

-- the root is the end of a way that is short enough
pub root_of : {p : List ℕ} {i r d : ℕ} → Leads p i r d → d ≤ 2 * length p → root p i ≡ r
root_of {p} w small = follow_of (longer w (2 * length p) small)

-- steps to spare do no harm
pub deeper : {d : ℕ} {p : List ℕ} → Forest d p → (e : ℕ) → d ≤ e → Forest e p
deeper {d} {p} f e h = forest (λ i inside. (follow d p i, longer (way f i inside) e h))

module _ {p : List ℕ} (full : Forest (2 * length p) p) {i : ℕ} (inside : i < length p) where
  pub root_inside : root p i < length p
  root_inside = end_inside (way full i inside)

  pub root_own : parent p (root p i) ≡ root p i
  root_own = end_own (way full i inside)

-- at first each number is its own root

module _ (n : ℕ) where
  pub forest_range : Forest 0 (range n 0)
  forest_range = forest (λ i h. (i, Leads.own h (range_own n i (rw length_range at h))))

  pub root_range : (i : ℕ) → i < n → root (range n 0) i ≡ i
  root_range i h = follow_own (2 * length (range n 0)) (range n 0) i (range_own n i h)

-- an edge hangs the root of i under that of j, and moves the numbers whose root that was

module _ {p : List ℕ} (full : Forest (2 * length p) p) {i j : ℕ} (inside-i : i < length p)
    (inside-j : j < length p) where
  way_hang : {k r d : ℕ} → Leads p k r d
      → Leads (hang p i j) k (moved (root p i) (root p j) r) (d + 1)
  way_hang {d = d} w =
      rw (add-one d)
      (hung p (root p i) (root p j) (root_inside full inside-i) (root_own full inside-i)
      (root_inside full inside-j) (root_own full inside-j) w)

  pub forest_hang : {d : ℕ} → Forest d p → Forest (d + 1) (hang p i j)
  forest_hang {d} f = forest (λ k h. (_, way_hang (way f k (rw length-set at h))))

  pub root_hang : {d : ℕ} → Forest d p → d + 1 ≤ 2 * length p → (k : ℕ) → k < length p
      → root (hang p i j) k ≡ moved (root p i) (root p j) (root p k)
  root_hang {d} f small k h =
      root_of (way_hang (way f k h)) (rw length-set small) ∙ rw (root_of (way f k h) (omega arith))

-- a search keeps the roots

pub flatter_full : {p q : List ℕ} → Flatter p q → Forest (2 * length p) p → Forest (2 * length q) q
flatter_full {p} flat full = rw flat.lengths (flat.depth (2 * length p) full)

pub flatter_trans : {p q s : List ℕ} → Flatter p q → Flatter q s → Flatter p s
flatter_trans first second =
    record {
      lengths = second.lengths ∙ first.lengths;
      roots = λ k h. second.roots k (rw first.lengths h) ∙ first.roots k h;
      depth = λ d f. second.depth d (first.depth d f);
    }

-- parents with the same roots

pub same_self : {d : ℕ} {p : List ℕ} → Forest d p → SameRoots d p p
same_self f = record { lengths = refl; left = f; right = f; roots = λ k h. refl }

pub same_deeper : {d : ℕ} {p q : List ℕ} → SameRoots d p q → (e : ℕ) → d ≤ e → SameRoots e p q
same_deeper same e h =
    record {
      lengths = same.lengths;
      left = deeper same.left e h;
      right = deeper same.right e h;
      roots = same.roots;
    }

pub same_flatter : {d : ℕ} {p p' q : List ℕ} → Flatter p p' → SameRoots d p q → SameRoots d p' q
same_flatter {d} flat same =
    record {
      lengths = flat.lengths ∙ same.lengths;
      left = flat.depth d same.left;
      right = same.right;
      roots = λ k h. let inside = rw flat.lengths at h in
          flat.roots k inside ∙ same.roots k inside;
    }

-- what a search asks of the parents
pub same_full : {d : ℕ} {p q : List ℕ} → SameRoots d p q → d ≤ 2 * length p
    → Forest (2 * length p) p
same_full same small = deeper same.left _ small

-- an edge in both keeps the roots the same, where every way has a step to spare
module _ {d : ℕ} {p q : List ℕ} (same : SameRoots d p q) (small : d + 1 ≤ 2 * length p) {i j : ℕ}
    (inside-i : i < length p) (inside-j : j < length p) where
  full_left : Forest (2 * length p) p
  full_left = same_full same (omega arith)

  full_right : Forest (2 * length q) q
  full_right = deeper same.right _ (rw (← same.lengths) (omega arith))

  in_q : {k : ℕ} → k < length p → k < length q
  in_q h = rw (← same.lengths) h

  pub same_hang : SameRoots (d + 1) (hang p i j) (hang q i j)
  same_hang =
      record {
        lengths = simp length-set same.lengths;
        left = forest_hang full_left inside-i inside-j same.left;
        right = forest_hang full_right (in_q inside-i) (in_q inside-j) same.right;
        roots = λ k h. let inside : k < length p = rw length-set at h in
            root_hang full_left inside-i inside-j same.left small k inside
            ∙ rw (same.roots i inside-i, same.roots j inside-j, same.roots k inside)
            (sym (root_hang full_right (in_q inside-i) (in_q inside-j) same.right
            (rw (← same.lengths) small) k (in_q inside)));
      }
