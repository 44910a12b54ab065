-- `hang_under` makes an edge: after both searches, whose roots are still roots, it does what `hang`
-- does to the parents that they left. Assumes nothing.
use Prim.Native.Nat.{ℕ, ◌*◌, ◌<◌}
use mathlib.Core.Path.{◌≡◌, sym, ◌∙◌}
use mathlib.Core.List.{List}
use lib.ListN.{length, set, length-set}
use Rattle.base_forest.specs.Forest.{Forest, Flatter, RootFound, Hung}
use Rattle.base_forest.specs.Roots.{root}
use Rattle.base_forest.proofs.Roots.{forest_hang, flatter_full, flatter_trans}
use Rattle.base_forest.proofs.Roots.{same_flatter, same_hang}
use Rattle.base_forest.proofs.hang_under.Goals as goal

module _ {p p₁ p₂ : List ℕ} {i j source target : ℕ} (full : Forest (2 * length p) p)
    (inside-i : i < length p) (inside-j : j < length p)
    (first : RootFound p i source p₁) (second : RootFound p₁ j target p₂) where
  both : Flatter p p₂
  both = flatter_trans first.kept second.kept

  here : {k : ℕ} → k < length p → k < length p₂
  here h = rw both.lengths h

  source_root : source ≡ root p₂ i
  source_root = first.is ∙ sym (both.roots i inside-i)

  target_root : target ≡ root p₂ j
  target_root = second.is ∙ sym (second.kept.roots j (rw first.kept.lengths inside-j))

  joins : Hung p i j (set p₂ source target)
  joins =
      rw (source_root, target_root)
      (record {
        lengths = length-set p₂ _ _ ∙ both.lengths;
        depth =
            λ d f. forest_hang (flatter_full both full) (here inside-i) (here inside-j)
            (both.depth d f);
        roots =
            λ d q small same. same_hang (same_flatter both same) (rw both.lengths small)
            (here inside-i) (here inside-j);
      })

pub returns : goal.returns
returns c =
    rw c.set_parent.ensures
    (joins c.requires.forest c.requires.i_in_bounds c.requires.j_in_bounds
    c.find-source.ensures c.find-target.ensures)
