-- The way from a number to its root: what following, halving and hanging do to it.
-- Assumes nothing.
use Prim.Native.Nat.{ℕ, zero, suc, zero-le, suc-le-suc, ◌≤◌, ◌<◌}
use mathlib.Core.Path.{◌≡◌, refl, sym, ap, ◌∙◌}
use mathlib.Core.Bool.{cond}
use mathlib.Core.List.{List}
use native.Mathlib.Decide.{ℕ_discrete, le_ind}
use lib.ListN.{length, set, length-set}
use lib.Seq.{get_or-set_same, get_or-set_other}
use lib.Dec.{eqb}
use borrow.Author.Tests.{eq-eqb, ne_eqb}
use Rattle.base_forest.specs.Forest.{Forest}
use Rattle.base_forest.specs.Roots.{parent, follow}

-- i's parents lead to r, which is its own, within d steps
pub data Leads (p : List ℕ) : ℕ → ℕ → ℕ → Type 0 where
  own : {r d : ℕ} → r < length p → parent p r ≡ r → Leads p r r d
  up : {i j r d : ℕ} → i < length p → parent p i ≡ j → Leads p j r d → Leads p i r (suc d)

module _ {p : List ℕ} where
  pub start_inside : {i r d : ℕ} → Leads p i r d → i < length p
  start_inside (own h s) = h
  start_inside (up h s w) = h

  pub parent_inside : {i r d : ℕ} → Leads p i r d → parent p i < length p
  parent_inside (own h s) = rw s h
  parent_inside (up h s w) = rw s (start_inside w)

  pub end_inside : {i r d : ℕ} → Leads p i r d → r < length p
  end_inside (own h s) = h
  end_inside (up h s w) = end_inside w

  pub end_own : {i r d : ℕ} → Leads p i r d → parent p r ≡ r
  end_own (own h s) = s
  end_own (up h s w) = end_own w

  one_more : {i r d : ℕ} → Leads p i r d → Leads p i r (suc d)
  one_more (own h s) = own h s
  one_more (up h s w) = up h s (one_more w)

  pub longer : {i r d : ℕ} → Leads p i r d → (e : ℕ) → d ≤ e → Leads p i r e
  longer {i} {r} w e h = le_ind (λ (n : ℕ). Leads p i r n) w (λ n _ v. one_more v) e h

  -- the way from the parent is no longer
  pub above : {i r d : ℕ} → Leads p i r d → Leads p (parent p i) r d
  above (own h s) = rw s (own h s)
  above (up h s w) = rw s (one_more w)

-- following

pub follow_own : (n : ℕ) (p : List ℕ) (i : ℕ) → parent p i ≡ i → follow n p i ≡ i
unfolding follow
follow_own zero p i s = refl
follow_own (suc n) p i s = rw (eq-eqb _ _ s)

-- a step of `follow` goes to the parent, also at a root, where it stays
follow_up : (n : ℕ) (p : List ℕ) (i : ℕ) → follow (suc n) p i ≡ follow n p (parent p i)
unfolding follow
follow_up n p i =
    elim (ℕ_discrete (parent p i) i) [
      | yes s ↦ follow_own (suc n) p i s
          ∙ sym (rw s (follow_own n p i s))
      | no s ↦ rw (ne_eqb _ _ s)
    ]

pub follow_of : {p : List ℕ} {i r d : ℕ} → Leads p i r d → follow d p i ≡ r
follow_of {p} (own {r = r} {d = d} h s) = follow_own d p r s
follow_of {p} (up {i = i} {d = d} h s w) = follow_up d p i ∙ rw s (follow_of w)

-- at a number that is its own parent the way has ended
pub ended : {p : List ℕ} {i r d : ℕ} → Leads p i r d → parent p i ≡ i → r ≡ i
ended {p} {i} {d = d} w s = sym (follow_of w) ∙ follow_own d p i s

way_of : (n : ℕ) (p : List ℕ) (i : ℕ) → ((k : ℕ) → k < length p → parent p k < length p)
    → i < length p → parent p (follow n p i) ≡ follow n p i → Leads p i (follow n p i) n
unfolding follow
way_of zero p i inside h s = own h s
way_of (suc n) p i inside h s =
    rw follow_up (up h refl (way_of n p (parent p i) inside (inside i h) (rw follow_up at s)))

pub way : {d : ℕ} {p : List ℕ} → Forest d p → (i : ℕ) → i < length p → Leads p i (follow d p i) d
way {d} {p} f i h = way_of d p i f.inside h (f.ends i h)

pub forest : {d : ℕ} {p : List ℕ} → ((i : ℕ) → i < length p → (r : ℕ) × Leads p i r d) → Forest d p
forest {d} {p} w =
    record {
      inside = λ i h. parent_inside (w i h).1;
      ends = λ i h. rw (follow_of (w i h).1) (end_own (w i h).1);
    }

-- setting the parent of one number

module _ (p : List ℕ) (at v : ℕ) where
  inside_set : {k : ℕ} → k < length p → k < length (set p at v)
  inside_set h = rw length-set h

  -- a root stays one, unless it is hung under another
  own_set_lem : {r d : ℕ} → r < length p → parent p r ≡ r → (r ≡ at → v ≡ r) → Leads (set p at v) r r d
  own_set_lem {r} h s same =
      own (inside_set h)
      (elim (ℕ_discrete r at) [
        | yes e ↦ rw (← e) (get_or-set_same p r v 0 h) ∙ same e
        | no n ↦ get_or-set_other p at r v 0 n ∙ s
      ])

  -- a step from i, which is at or keeps its parent
  up_set : {i r d : ℕ} → i < length p → (i ≡ at → Leads (set p at v) v r d)
      → ((i ≡ at → ⊥) → Leads (set p at v) (parent p i) r d)
      → Leads (set p at v) i r (suc d)
  up_set {i} h here there =
      elim (ℕ_discrete i at) [
        | yes e ↦ up {j = v} (inside_set h) (rw (← e) (get_or-set_same p i v 0 h)) (here e)
        | no n ↦ up (inside_set h) (get_or-set_other p at i v 0 n) (there n)
      ]

-- halving

-- at hangs under its parent's parent
abbrev pub halved : List ℕ → ℕ → List ℕ
halved p at = set p at (parent p (parent p at))

halve_both : (at : ℕ) {p : List ℕ} {i r d : ℕ} → Leads p i r d
    → Leads (halved p at) i r d × Leads (halved p at) (parent p i) r d
halve_both at {p} (own {r = r} h s) =
    let w : Leads (halved p at) r r _ = own_set_lem p at _ h s (λ e. rw (← e) (ap (parent p) s ∙ s)) in
    (w, rw s w)
halve_both at {p} (up {i = i} h s w) =
    let both = halve_both at w in (
      up_set p at _ h (λ e. rw (← s, e) at both.1) (λ n. rw s both.0),
      rw s
          (one_more both.0),
    )

-- halving keeps the root, and makes no way longer
pub halve : (at : ℕ) {p : List ℕ} {i r d : ℕ} → Leads p i r d → Leads (halved p at) i r d
halve at w = (halve_both at w).0

-- how many steps the way from i takes, at most n
unfoldable pub steps : ℕ → List ℕ → ℕ → ℕ
steps zero p i = 0
steps (suc n) p i = cond (eqb (parent p i) i) 0 (suc (steps n p (parent p i)))

steps_own : (n : ℕ) (p : List ℕ) (i : ℕ) → parent p i ≡ i → steps n p i ≡ 0
unfolding steps
steps_own zero p i s = refl
steps_own (suc n) p i s = rw (eq-eqb _ _ s)

steps_up : (n : ℕ) (p : List ℕ) (i : ℕ) → (parent p i ≡ i → ⊥)
    → steps (suc n) p i ≡ suc (steps n p (parent p i))
unfolding steps
steps_up n p i s = rw (ne_eqb _ _ s)

steps_least : (n : ℕ) {p : List ℕ} {i r d : ℕ} → Leads p i r d → steps n p i ≤ d
unfolding steps
steps_least zero w = zero-le
steps_least (suc n) {p} (own {r = r} h s) = rw (steps_own (suc n) p r s) zero-le
steps_least (suc n) {p} (up {i = i} h s w) =
    elim (ℕ_discrete (parent p i) i) [
      | yes e ↦ rw (steps_own (suc n) p i e) zero-le
      | no no-root ↦ rw (steps_up n p i no-root, s) (suc-le-suc (steps_least n w))
    ]

steps_reach : {p : List ℕ} {i r n : ℕ} → Leads p i r n → Leads p i r (steps n p i)
steps_reach (own h s) = own h s
steps_reach {p} (up {i = i} {d = d} h s w) =
    elim (ℕ_discrete (parent p i) i) [
      | yes e ↦ rw (ended (up h s w) e) (own h e)
      | no no-root ↦ rw (steps_up d p i no-root, s) (up h s (steps_reach w))
    ]

-- a search that halves at `at` and goes on from its parent's parent comes nearer to the root
pub nearer : (m : ℕ) {p : List ℕ} {at r n : ℕ} → Leads p at r n → (parent p at ≡ at → ⊥)
    → steps m (halved p at) (parent p (parent p at)) < steps n p at
nearer m (own h s) no-root = absurd (no-root s)
nearer m {p} {at} (up {d = d} h s w) no-root =
    rw (steps_up d p at no-root)
    (suc-le-suc (steps_least m (halve at (above (steps_reach (rw (← s) at w))))))

-- hanging

-- the root r after the root i was hung under the root j
abbrev pub moved : ℕ → ℕ → ℕ → ℕ
moved i j r = cond (eqb r i) j r

module _ (p : List ℕ) (i j : ℕ) (inside-i : i < length p) (own-i : parent p i ≡ i)
    (inside-j : j < length p) (own-j : parent p j ≡ j) where
  pub hung : {k r d : ℕ} → Leads p k r d → Leads (set p i j) k (moved i j r) (suc d)
  hung (own {r = r} h s) =
      elim (ℕ_discrete r i) [
        | yes e ↦ rw (eq-eqb r i e)
            (up_set p i j h (λ _. own_set_lem p i j inside-j own-j (λ _. refl)) (λ n. absurd (n e)))
        | no n ↦ rw (ne_eqb r i n) (own_set_lem p i j h s (λ e. absurd (n e)))
      ]
  hung (up {i = k} {j = above-k} h s w) =
      elim (ℕ_discrete k i) [
        | yes e ↦
            (let stays : k ≡ above-k = e ∙ sym own-i ∙ ap (parent p) (sym e) ∙ s in
            rw stays (one_more (hung w)))
        | no n ↦ up_set p i j h (λ e. absurd (n e)) (λ _. rw s (hung w))
      ]
