-- The plan has two numbers for each block.
-- Assumes nothing.
use Prim.Native.Nat.{ℕ, zero, suc, ◌*◌, ◌<◌}
use mathlib.Core.Path.{◌≡◌, refl, ap, ap₂, ◌∙◌}
use mathlib.Core.List.{List, [], ◌∷◌, ◌++◌, map, flatten, Memᴰ}
use native.Mathlib.Omega.{arith}
use lib.ListN.{length, get_or, length-append, length-map}
use Rattle.file_blocks.specs.Parse.{Block, block_key}
use Rattle.base_forest.specs.Roots.{root}
use Rattle.base_lists.specs.Lists.{range}
use Rattle.base_lists.proofs.Places.{map_at}
use Rattle.base_lists.proofs.Range.{length_range, range_own}
use Rattle.file_keys.specs.Order.{key_order}
use Rattle.file_keys.proofs.Ordered.{is_order}
use Rattle.plan_groups.specs.Order.{order_from}
use Rattle.plan_groups.specs.Plan.{parents, groups, group_rows, rows_from, plan}
use Rattle.plan_groups.proofs.Components.{component, groups_flat}
use Rattle.plan_groups.proofs.Edges.{root_block}
use Rattle.plan_groups.proofs.Numbering.{component_is, order_all}

group_rows_length : (g : ℕ) (is : List ℕ) → length (group_rows g is) ≡ 2 * length is
group_rows_length g [] = refl
group_rows_length g (i ∷ is) = omega (arith, group_rows_length g is)

-- rows have two numbers for each block of their groups
pub rows_length : (g : ℕ) (gs : List (List ℕ)) → length (rows_from g gs) ≡ 2 * length (flatten gs)
unfolding rows_from flatten
rows_length g [] = refl
rows_length g (is ∷ gs) =
    omega (
      arith,
      length-append (group_rows g is) (rows_from (suc g) gs),
      length-append is (flatten gs),
      group_rows_length g is,
      rows_length (suc g) gs,
    )

module _ (bs : List Block) where
  -- the root of each block
  roots : List ℕ
  roots = map (root (parents bs)) (range (length bs) 0)

  roots_at : (j : ℕ) → j < length bs → get_or roots j 0 ≡ root (parents bs) j
  unfolding roots
  roots_at j h =
      map_at (root (parents bs)) (range (length bs) 0) j 0 0
      (omega (arith, length_range (length bs) 0))
      ∙ ap (root (parents bs)) (range_own (length bs) j h)

  components_are : (left r : ℕ)
      → flatten (map (component bs) (range left r))
      ≡ order_from roots (key_order (map block_key bs)) left r
  unfolding flatten order_from
  components_are zero r = refl
  components_are (suc left) r =
      ap₂ (λ (a b : List ℕ). a ++ b) (component_is bs roots roots_at r)
      (components_are left (suc r))

  -- all groups together have each block once
  pub groups_length : (limit : ℕ) → length (flatten (groups limit bs)) ≡ length bs
  groups_length limit =
      let order = is_order (map block_key bs) (key_order (map block_key bs)) refl in
      let inside : (j : ℕ) → Memᴰ j (key_order (map block_key bs)) → j < length bs =
      λ j m. omega (arith, order.member m, length-map bs block_key) in
      ap length (groups_flat limit bs ∙ components_are (length bs) 0)
      ∙ order_all roots (key_order (map block_key bs)) (length bs)
      (λ j m. rw (roots_at j (inside j m)) (root_block bs j (inside j m)))
      ∙ order.long ∙ length-map bs block_key

  pub plan_length : (limit : ℕ) → length (plan limit bs) ≡ 2 * length bs
  unfolding plan
  plan_length limit = rows_length 0 (groups limit bs) ∙ ap (λ (n : ℕ). 2 * n) (groups_length limit)
