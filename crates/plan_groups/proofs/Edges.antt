-- The parents after all edges: every way ends at a root, and edges join only blocks that are
-- joinable. Assumes nothing.
use Prim.Native.Nat.{ℕ, zero, suc, ◌+◌, ◌*◌, ◌≤◌, ◌<◌}
use mathlib.Core.Path.{◌≡◌, refl, sym, ap, ◌∙◌}
use mathlib.Core.Bool.{Bool, true, false, cond, ◌&&◌, true≢false}
use mathlib.Core.List.{List, [], ◌∷◌, map}
use mathlib.Core.Option.{Option, none, some}
use native.Mathlib.Nat.{zero-add, add-zero}
use native.Mathlib.Decide.{ℕ_discrete}
use native.Mathlib.Omega.{arith}
use borrow.Author.Tests.{eq-eqb, ne_eqb}
use lib.ListN.{length, get_or, length-set}
use lib.Dec.{eqb}
use Rattle.file_blocks.specs.Parse.{Block, block_key}
use Rattle.plan_exits.specs.Exits.{exits}
use Rattle.plan_exits.proofs.Few.{exits_few}
use Rattle.base_forest.specs.Forest.{Forest}
use Rattle.base_forest.specs.Roots.{root, hang}
use Rattle.base_lists.specs.Lists.{range}
use Rattle.plan_search.specs.Target.{joinable, target}
use Rattle.plan_groups.specs.Plan.{join_to, join_exits, join_blocks, parents}
use Rattle.base_forest.proofs.Roots.{deeper, root_inside, forest_range, root_range}
use Rattle.base_lists.proofs.Range.{length_range}
use Rattle.base_forest.proofs.Roots.{forest_hang, root_hang}
use Rattle.base_forest.proofs.Ways.{moved}

-- whether block k can be joined
abbrev pub joins_at : List Block → ℕ → Bool
joins_at bs k = get_or (map joinable bs) k false

-- a block that can be joined is one of the list
pub joins_inside : (bs : List Block) (k : ℕ) → joins_at bs k ≡ true → k < length bs
joins_inside [] k e = absurd (true≢false (sym e))
joins_inside (b ∷ bs) zero e = omega arith
joins_inside (b ∷ bs) (suc k) e = omega (arith, joins_inside bs k e)

-- a block that was found by its key can be joined
pub target_joins : (key : ℕ) (bs : List Block) (i j : ℕ) → target key bs i ≡ some j
    → (m : ℕ) × (j ≡ i + m) × (joins_at bs m ≡ true)
unfolding target
target_joins key [] i j e = absurd (let z : ◌≡◌ {A = ℕ} 0 1 = cc in omega arith)
target_joins key (b ∷ bs) i j e =
    go (eqb (block_key b) key) (joinable b) refl (target_joins key bs (suc i) j) e
  where
    later : (m : ℕ) × (j ≡ suc i + m) × (joins_at bs m ≡ true)
        → (m : ℕ) × (j ≡ i + m) × (joins_at (b ∷ bs) m ≡ true)
    later (m, is, joins) = (suc m, omega arith, joins)

    go : (x y : Bool) → joinable b ≡ y
        → (target key bs (suc i) ≡ some j → (m : ℕ) × (j ≡ suc i + m) × (joins_at bs m ≡ true))
        → cond (x && y) (some i) (target key bs (suc i)) ≡ some j
        → (m : ℕ) × (j ≡ i + m) × (joins_at (b ∷ bs) m ≡ true)
    go true true h ih e' = (let same : i ≡ j = cc in (0, omega arith, h))
    go true false h ih e' = later (ih e')
    go false y h ih e' = later (ih e')

-- parents of which every way ends within d steps, and which lead only joinable blocks to other
-- blocks
pub record Apart (bs : List Block) (d : ℕ) (p : List ℕ) : Type 0 where
  pub lengths : length p ≡ length bs
  pub ways : Forest d p
  pub pages : (k : ℕ) → k < length bs → joins_at bs (root p k) ≡ joins_at bs k
  pub alone : (k : ℕ) → k < length bs → joins_at bs k ≡ false → root p k ≡ k

module _ (bs : List Block) where
  -- at first
  apart_none : Apart bs 0 (range (length bs) 0)
  apart_none =
      record {
        lengths = length_range (length bs) 0;
        ways = forest_range (length bs);
        pages = λ k h. ap (joins_at bs) (root_range (length bs) k h);
        alone = λ k h e. root_range (length bs) k h;
      }

  -- steps to spare do no harm
  apart_deeper : {d : ℕ} {p : List ℕ} → Apart bs d p → (e : ℕ) → d ≤ e → Apart bs e p
  apart_deeper a e h =
      record {
        lengths = a.lengths;
        ways = deeper a.ways e h;
        pages = a.pages;
        alone = a.alone;
      }

  -- an edge between two joinable blocks
  module _ {d : ℕ} {p : List ℕ} (a : Apart bs d p) (few : d + 1 ≤ 2 * length bs) (i j : ℕ)
      (joins-i : joins_at bs i ≡ true) (joins-j : joins_at bs j ≡ true) where
    inside : {k : ℕ} → k < length bs → k < length p
    inside h = rw a.lengths h

    full : Forest (2 * length p) p
    full = deeper a.ways (2 * length p) (omega (arith, a.lengths))

    root_is : (k : ℕ) → k < length bs → root (hang p i j) k ≡ moved (root p i) (root p j) (root p k)
    root_is k h =
        root_hang full (inside (joins_inside bs i joins-i)) (inside (joins_inside bs j joins-j))
        a.ways (omega (arith, a.lengths)) k (inside h)

    joins_root : (k : ℕ) → joins_at bs k ≡ true → joins_at bs (root p k) ≡ true
    joins_root k e = a.pages k (joins_inside bs k e) ∙ e

    -- a block with the root of i is joinable
    with_root : (k : ℕ) → k < length bs → root p k ≡ root p i → joins_at bs k ≡ true
    with_root k h e = sym (a.pages k h) ∙ ap (joins_at bs) e ∙ joins_root i joins-i

    apart_hang : Apart bs (d + 1) (hang p i j)
    apart_hang =
        record {
          lengths = length-set p (root p i) (root p j) ∙ a.lengths;
          ways =
              forest_hang full (inside (joins_inside bs i joins-i))
              (inside (joins_inside bs j joins-j)) a.ways;
          pages = λ k h.
              elim (ℕ_discrete (root p k) (root p i)) [
                | yes e ↦ rw (root_is k h, eq-eqb _ _ e)
                    (joins_root j joins-j ∙ sym (with_root k h e))
                | no ne ↦ rw (root_is k h, ne_eqb _ _ ne) (a.pages k h)
              ];
          alone = λ k h off.
              elim (ℕ_discrete (root p k) (root p i)) [
                | yes e ↦ absurd (true≢false (sym (with_root k h e) ∙ off))
                | no ne ↦ rw (root_is k h, ne_eqb _ _ ne) (a.alone k h off)
              ];
        }

  -- the edge to a key, if there is a block to join
  apart_to : {d : ℕ} {p : List ℕ} → Apart bs d p → d + 1 ≤ 2 * length bs → (i : ℕ)
      → joins_at bs i ≡ true → (key : ℕ) (found : Option ℕ)
      → target key bs 0 ≡ found → Apart bs (d + 1) (join_to i p found)
  apart_to {d} a few i joins key none e = apart_deeper a (d + 1) (omega arith)
  apart_to a few i joins key (some j) e =
      let there = target_joins key bs 0 j e in
      apart_hang a few i j joins (ap (joins_at bs) (there.1 ∙ zero-add _) ∙ there.2)

  -- the edges of a block
  apart_exits : (i : ℕ) → joins_at bs i ≡ true → (keys : List ℕ) {d : ℕ} {p : List ℕ} → Apart bs d p
      → d + length keys ≤ 2 * length bs
      → Apart bs (d + length keys) (join_exits bs i p keys)
  unfolding join_exits
  apart_exits i joins [] {d} a few = apart_deeper a (d + 0) (omega arith)
  apart_exits i joins (key ∷ keys) {d} a few =
      apart_deeper
      (apart_exits i joins keys (apart_to a (omega arith) i joins key (target key bs 0) refl)
      (omega arith)) (d + suc (length keys)) (omega arith)

  -- a block has at most two edges
  apart_block : (i : ℕ) (b : Block) {p : List ℕ} → joins_at bs i ≡ joinable b → i < length bs
      → Apart bs (2 * i) p
      → Apart bs (2 * suc i) (cond (joinable b) (join_exits bs i p (exits b)) p)
  apart_block i b {p} here h a = go (joinable b) here
    where
      go : (c : Bool) → joins_at bs i ≡ c
          → Apart bs (2 * suc i) (cond c (join_exits bs i p (exits b)) p)
      go true e =
          apart_deeper (apart_exits i e (exits b) a (omega (arith, exits_few b))) (2 * suc i)
          (omega (arith, exits_few b))
      go false e = apart_deeper a (2 * suc i) (omega arith)

  -- the edges of the blocks from block i on
  apart_blocks : (left : List Block) (i : ℕ) {p : List ℕ} → i + length left ≡ length bs
      → ((k : ℕ) → joins_at bs (i + k) ≡ joins_at left k) → Apart bs (2 * i) p
      → Apart bs (2 * length bs) (join_blocks bs p i left)
  unfolding join_blocks
  apart_blocks [] i e same a = apart_deeper a (2 * length bs) (omega arith)
  apart_blocks (b ∷ left) i e same a =
      apart_blocks left (suc i) (omega arith)
      (λ k. ap (joins_at bs) (let next : suc i + k ≡ i + suc k = omega arith in next) ∙ same (suc k))
      (apart_block i b (ap (joins_at bs) (sym (add-zero i)) ∙ same 0) (omega arith) a)

  -- the parents after all edges
  pub parents_apart : Apart bs (2 * length bs) (parents bs)
  unfolding parents
  parents_apart = apart_blocks bs 0 (zero-add _) (λ k. ap (joins_at bs) (zero-add k)) apart_none

  -- the root of a block is a block
  pub root_block : (k : ℕ) → k < length bs → root (parents bs) k < length bs
  root_block k h =
      let long = parents_apart.lengths in
      let there : k < length (parents bs) = omega arith in
      omega (
        arith,
        root_inside
            (deeper parents_apart.ways (2 * length (parents bs)) (omega arith)) there,
      )

  -- a block that is not joinable is its own root
  pub root_self : (i : ℕ) → i < length bs → joins_at bs i ≡ false → root (parents bs) i ≡ i
  root_self = parents_apart.alone

  -- and that of no other block
  pub root_alone : (i k : ℕ) → k < length bs → joins_at bs i ≡ false → root (parents bs) k ≡ i
      → k ≡ i
  root_alone i k h off e =
      sym (parents_apart.alone k h (sym (parents_apart.pages k h) ∙ ap (joins_at bs) e ∙ off)) ∙ e
