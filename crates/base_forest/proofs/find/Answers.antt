use Prim.Native.Nat.{ℕ, ◌*◌, ◌<◌}
use mathlib.Core.Path.{◌≡◌, refl, sym, ◌∙◌}
use mathlib.Core.List.{List}
use native.Mathlib.Nat.{le_refl}
use lib.ListN.{length, length-set}
use Rattle.base_forest.specs.Forest.{Forest, RootFound}
use Rattle.base_forest.specs.Roots.{parent}
use Rattle.base_forest.proofs.Ways.{start_inside, above, way, forest}
use Rattle.base_forest.proofs.Ways.{ended, halved, halve, nearer}
use Rattle.base_forest.proofs.Roots.{root_of}
use Rattle.base_forest.proofs.find.Invariants.{Reached}
use Rattle.base_forest.proofs.find.Goals as goal

starts : {p : List ℕ} → Forest (2 * length p) p → (i : ℕ) → i < length p → Reached p i p i
starts full i h = record { lengths = refl; inside = h; kept = λ w. w; left = way full i h }

module _ {p₀ : List ℕ} {i : ℕ} {p : List ℕ} {at : ℕ} (here : Reached p₀ i p at) where
  goes_on : Reached p₀ i (halved p at) (parent p (parent p at))
  goes_on =
      let onward = halve at (above (above here.left)) in
      record {
        lengths = length-set p at _ ∙ here.lengths;
        inside = start_inside onward;
        kept = λ w. halve at (here.kept w);
        left = onward;
      }

  ends : Forest (2 * length p₀) p₀ → parent p at ≡ at → RootFound p₀ i at p
  ends full own =
      record {
        is = sym (ended here.left own);
        inside = here.inside;
        kept = record {
          lengths = here.lengths;
          roots = λ k h. root_of (here.kept (way full k h)) (rw here.lengths (le_refl _));
          depth = λ d f. forest (λ k h. (_, here.kept (way f k (rw here.lengths at h))));
        };
      }

pub loop-at-init : goal.loop-at-init
loop-at-init c = starts c.requires.forest c.args.i c.requires.i_in_bounds

pub loop-at-smaller : goal.loop-at-smaller
loop-at-smaller c = nearer _ c.loop-at.invariant.left c.if-up-at.false

pub loop-at-preserved : goal.loop-at-preserved
loop-at-preserved c = goes_on c.loop-at.invariant

pub returns : goal.returns
returns c = ends c.loop-at.invariant c.requires.forest c.if-up-at.true
