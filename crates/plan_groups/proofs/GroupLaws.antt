-- What every group of a plan has: a limit of instructions, one page, each block once, key order,
-- one root. Assumes nothing of the blocks but what a law takes as an argument.
use Prim.Native.Nat.{ℕ, ◌≤◌, ◌<◌}
use mathlib.Core.Path.{◌≡◌, refl, sym, ap, ◌∙◌}
use mathlib.Core.Bool.{Bool, true, false}
use mathlib.Core.List.{List, [], map, flatten, Memᴰ}
use native.Mathlib.Decide.{dec_le}
use native.Mathlib.Omega.{arith}
use lib.ListN.{length, get_or}
use Rattle.file_blocks.specs.Parse.{Block, block_key}
use Rattle.base_forest.specs.Roots.{root}
use Rattle.base_lists.specs.Lists.{range, count}
use Rattle.plan_search.specs.Target.{joinable}
use Rattle.plan_groups.specs.Plan.{parents, groups_from, groups}
use Rattle.plan_groups.proofs.Components.{component, counts_of, component_member}
use Rattle.plan_groups.proofs.Components.{components_once, groups_flat, groups_part}
use Rattle.file_keys.proofs.Sorted.{NoFall, sort_order}
use Rattle.plan_groups.proofs.Cutting.{instructions}
use Rattle.plan_groups.proofs.Cutting.{part_fits, part_piece}
use Rattle.plan_groups.proofs.Edges.{joins_at, root_self, root_alone}
use Rattle.base_lists.proofs.Counts.{stands, count_in, one_list}
use Rattle.base_lists.proofs.Counts.{some_list}
use Rattle.base_lists.proofs.Places.{map_at, member_at}
use Rattle.base_lists.proofs.Order.{InOrder, order_at, once_apart}
use Rattle.base_lists.proofs.Pieces.{Piece, piece_member, piece_order}

module _ (limit : ℕ) (bs : List Block) where
  -- no blocks, no groups
  pub groups_none : length bs ≡ 0 → groups limit bs ≡ []
  unfolding groups groups_from
  groups_none e = rw e

  -- the limit only cuts: the groups, one after the other, are the components by root number, each
  -- in key order
  pub groups_cut : flatten (groups limit bs) ≡ flatten (map (component bs) (range (length bs) 0))
  groups_cut = groups_flat limit bs

  -- every block stands in the groups once
  pub groups_once : (i : ℕ) → i < length bs → count i (flatten (groups limit bs)) ≡ 1
  groups_once i h = ap (count i) groups_cut ∙ components_once bs i h

  module _ (g : List ℕ) (m : Memᴰ g (groups limit bs)) where
    -- a group has a block
    pub group_some : 1 ≤ length g
    group_some = (part_fits limit (counts_of bs) _ g (groups_part limit bs g m).2).some

    -- a group of several has at most `limit` instructions in all
    pub group_limit : 2 ≤ length g → instructions (counts_of bs) g ≤ limit
    group_limit = (part_fits limit (counts_of bs) _ g (groups_part limit bs g m).2).small

    -- a group stands in its component in one piece, in the component's order
    pub group_piece : (r : ℕ) × (r < length bs) × Piece g (component bs r)
    group_piece =
        let there = groups_part limit bs g m in
        (there.0, there.1, part_piece limit (counts_of bs) (component bs there.0) g there.2)

    in_component : (i : ℕ) → Memᴰ i g
        → (i < length bs) × (root (parents bs) i ≡ group_piece.0)
    in_component i h = component_member bs group_piece.0 i (piece_member group_piece.2 h)

    -- a group lists blocks only
    pub group_inside : (i : ℕ) → Memᴰ i g → i < length bs
    group_inside i h = (in_component i h).0

    -- the blocks of a group have one root
    pub group_root : (i j : ℕ) → Memᴰ i g → Memᴰ j g
        → root (parents bs) i ≡ root (parents bs) j
    group_root i j a b = (in_component i a).1 ∙ sym (in_component j b).1

    -- keys do not fall along a group
    pub group_sorted : InOrder (NoFall (map block_key bs)) g
    group_sorted =
        piece_order group_piece.2 (NoFall (map block_key bs)) (sort_order (map block_key bs) _)

    -- a group lists no block twice
    pub group_once : (i : ℕ) → count i g ≤ 1
    group_once i =
        elim (dec_le 1 (count i g)) [
          | yes l ↦ omega (arith, count_in i m, groups_once i (group_inside i (stands i g l)))
          | no n ↦ omega arith
        ]

    -- the same by places in the group
    pub group_apart : (a b : ℕ) → a < b → b < length g → get_or g a 0 ≡ get_or g b 0 → ⊥
    group_apart = order_at (λ i j. i ≡ j → ⊥) g (once_apart g group_once)

    -- a block that is not joinable has a root of its own, so that all blocks of its group would be
    -- that block
    joins_of : 2 ≤ length g → (i : ℕ) → Memᴰ i g → (c : Bool) → joins_at bs i ≡ c → c ≡ true
    joins_of several i h true e = refl
    joins_of several i h false e =
        let only : (k : ℕ) → Memᴰ k g
        → k ≡ i =
        λ k l. root_alone bs i k (group_inside k l) e
        (group_root k i l h ∙ root_self bs i (group_inside i h) e) in
        absurd (group_apart 0 1 (omega arith) several
        (only _ (member_at g 0 0 (omega arith)) ∙ sym (only _ (member_at g 1 0 several))))

    -- the blocks of a group of several are joinable
    pub group_joinable : 2 ≤ length g → (i : ℕ) → Memᴰ i g → (d : Block)
        → joinable (get_or bs i d) ≡ true
    group_joinable several i h d = sym (map_at joinable bs i d false (group_inside i h))
        ∙ joins_of several i h (joins_at bs i) refl

  -- no other number stands in the groups
  pub groups_only : (i : ℕ) → length bs ≤ i → count i (flatten (groups limit bs)) ≡ 0
  groups_only i h =
      elim (dec_le 1 (count i (flatten (groups limit bs)))) [
        | yes l ↦
            (let there = some_list i (groups limit bs) l in
            absurd (omega (arith, group_inside there.0 there.1 i there.2)))
        | no n ↦ omega arith
      ]

  -- every block has a group
  pub group_of : (i : ℕ) → i < length bs
      → (g : List ℕ) × Memᴰ g (groups limit bs) × Memᴰ i g
  group_of i h = some_list i (groups limit bs) (omega (arith, groups_once i h))

  -- two groups with a block in common are one
  pub group_same : (g h : List ℕ) → Memᴰ g (groups limit bs) → Memᴰ h (groups limit bs)
      → (i : ℕ) → Memᴰ i g → Memᴰ i h → g ≡ h
  group_same g h m n i a b =
      one_list i (omega (arith, groups_once i (group_inside g m i a))) m n a b
