-- The lists of members: one number more filled, and one block more linked.
-- Assumes nothing.
use mathlib.Core.Path.{◌≡◌, refl, sym, ap, ◌∙◌, subst}
use mathlib.Core.List.Memᴰ
use mathlib.Core.List.{List, [], ◌∷◌, Memᴰ}
use mathlib.Core.Logic.{⊎_elim}
use Prim.Native.Nat.{ℕ, suc, ◌+◌, ◌*◌, ◌-◌, ◌≤◌, ◌<◌}
use native.Mathlib.Nat.{not-suc-le-zero, le_refl}
use native.Mathlib.Omega.{arith}
use native.Mathlib.Decide.{ℕ_discrete}
use borrow.Author.Tests.{eq-eqb, ne_eqb}
use lib.ListN.{length, get_or, set, take, drop, length-set, drop_of_length-le}
use lib.Seq.{get_or-set_same, get_or-set_other, get_or-take, drop-cons}
use Rattle.base_lists.proofs.Places.{member_at}
use Rattle.plan_groups.specs.Links.{seek, behind, AllOnce, Filled, link_one, HasRoots, Linked}
use Rattle.plan_groups.specs.Links.{AllLinked, Outside}
use Rattle.plan_groups.proofs.Lending.{take_kept}
use Rattle.plan_groups.proofs.Tails.{Tail, behind_here, behind_past, tail_all, tail_drop}

pub filled_none : (n : ℕ) (w : List ℕ) → Filled n 0 w w
filled_none n w =
    record {
      same = refl;
      full = λ r h. absurd (not-suc-le-zero h);
      before = λ k h. refl;
      after = λ k h. refl;
    }

pub filled_more : (n m : ℕ) (w w' : List ℕ) → 4 * n ≤ length w → m < n → Filled n m w w'
    → Filled n (m + 1) w (set w' (3 * n + m) n)
filled_more n m w w' room h e =
    record {
      same = length-set w' (3 * n + m) n ∙ e.same;
      full = λ r l.
          elim (ℕ_discrete r m) [
            | yes g ↦ ap (λ (k : ℕ). get_or (set w' (3 * n + m) n) (3 * n + k) 0) g
                ∙ get_or-set_same w' (3 * n + m) n 0 (omega (arith, e.same))
            | no g ↦ get_or-set_other w' (3 * n + m) (3 * n + r) n 0 (omega arith)
                ∙ e.full r (omega arith)
          ];
      before = λ k l. get_or-set_other w' (3 * n + m) k n 0 (omega arith) ∙ e.before k l;
      after = λ k l. get_or-set_other w' (3 * n + m) k n 0 (omega arith) ∙ e.after k (omega arith);
    }

pub outside_fill : (n : ℕ) (w w' : List ℕ) → Filled n n w w' → Outside n w w'
outside_fill n w w' e =
    record {
      same = e.same;
      before = λ k h. e.before k (omega arith);
      middle = λ k l h. e.before k h;
      after = λ k h. e.after k (omega arith);
    }

-- before any block is linked, no component has a member
pub linked_none : (roots : List ℕ) (n : ℕ) (w w' : List ℕ) → Filled n n w w' → Linked roots n [] w'
unfolding seek
linked_none roots n w w' e =
    record { next = λ j m. absurd (Memᴰ.not-nil m); first = λ r h. e.full r h }

module _ (n i : ℕ) (w₀ w : List ℕ) (room : 4 * n ≤ length w₀) (h : i < n)
    (small : get_or w₀ (2 * n + i) 0 < n) (o : Outside n w₀ w) where
  abbrev r₀ : ℕ
  r₀ = get_or w (2 * n + i) 0

  r_small : r₀ < n
  r_small = subst (λ (k : ℕ). k < n) (sym (o.middle (2 * n + i) (omega arith) (omega arith))) small

  abbrev w₁ : List ℕ
  w₁ = set w (n + i) (get_or w (3 * n + r₀) 0)

  long₁ : length w₁ ≡ length w₀
  long₁ = length-set w (n + i) _ ∙ o.same

  -- a number that neither store reached
  other : (k : ℕ) → (k ≡ n + i → ⊥) → (k ≡ 3 * n + r₀ → ⊥) → get_or (link_one n i w) k 0 ≡ get_or w k 0
  other k g g' = get_or-set_other w₁ (3 * n + r₀) k i 0 g' ∙ get_or-set_other w (n + i) k _ 0 g

  pub outside_more : Outside n w₀ (link_one n i w)
  outside_more =
      record {
        same = length-set w₁ (3 * n + r₀) i ∙ long₁;
        before = λ k b. other k (omega arith) (omega (arith, r_small)) ∙ o.before k b;
        middle = λ k l b. other k (omega arith) (omega (arith, r_small)) ∙ o.middle k l b;
        after = λ k b. other k (omega arith) (omega (arith, r_small)) ∙ o.after k b;
      }

  module _ (roots : List ℕ) (has : HasRoots n roots w₀) (order is : List ℕ)
      (t : Tail n order (i ∷ is)) (e : Linked roots n is w) where
    r_is : r₀ ≡ get_or roots i 0
    r_is = o.middle (2 * n + i) (omega arith) (omega arith) ∙ has i h

    -- a search that starts one block earlier
    seek_here : seek roots r₀ n (i ∷ is) ≡ i
    unfolding seek
    seek_here = rw (eq-eqb _ _ (sym r_is))

    seek_past : (r : ℕ) → (r ≡ r₀ → ⊥) → seek roots r n (i ∷ is) ≡ seek roots r n is
    unfolding seek
    seek_past r g = rw (ne_eqb _ _ (λ e'. g (sym e' ∙ sym r_is)))

    next_here : get_or (link_one n i w) (n + i) 0
        ≡ seek roots (get_or roots i 0) n (behind i (i ∷ is))
    next_here =
        get_or-set_other w₁ (3 * n + r₀) (n + i) i 0 (omega (arith, r_small))
        ∙ get_or-set_same w (n + i) (get_or w (3 * n + r₀) 0) 0 (omega (arith, o.same))
        ∙ e.first r₀ r_small
        ∙ ap (λ (r : ℕ). seek roots r n is) r_is
        ∙ ap (seek roots (get_or roots i 0) n) (sym (behind_here i is))

    next_later : (j : ℕ) → Memᴰ j is
        → get_or (link_one n i w) (n + j) 0 ≡ seek roots (get_or roots j 0) n (behind j (i ∷ is))
    next_later j m =
        let g = t.apart.0 j m in
        let inside = t.inside j (Memᴰ.tail m) in
        other (n + j) (λ e'. g (omega arith)) (omega (arith, r_small))
        ∙ e.next j m
        ∙ ap (seek roots (get_or roots j 0) n) (sym (behind_past j i is g))

    pub linked_more : Linked roots n (i ∷ is) (link_one n i w)
    linked_more =
        record {
          next = λ j m.
              ⊎_elim
              (λ (g : j ≡ i). subst
              (λ (k : ℕ). get_or (link_one n i w) (n + k) 0
              ≡ seek roots (get_or roots k 0) n (behind k (i ∷ is))) (sym g) next_here)
              (λ (l : Memᴰ j is). next_later j l) (Memᴰ.cases_cons m);
          first = λ r b.
              elim (ℕ_discrete r r₀) [
                | yes g ↦ subst
                    (λ (k : ℕ). get_or (link_one n i w) (3 * n + k) 0 ≡ seek roots k n (i ∷ is))
                    (sym g)
                    (get_or-set_same w₁ (3 * n + r₀) i 0 (omega (arith, long₁, r_small))
                    ∙ sym seek_here)
                | no g ↦ other (3 * n + r) (omega arith) (omega arith) ∙ e.first r b
                    ∙ sym (seek_past r g)
              ];
        }

pub outside_trans : (n : ℕ) (w w₁ w₂ : List ℕ) → Outside n w w₁ → Outside n w₁ w₂ → Outside n w w₂
outside_trans n w w₁ w₂ a b =
    record {
      same = b.same ∙ a.same;
      before = λ k h. b.before k h ∙ a.before k h;
      middle = λ k l h. b.middle k l h ∙ a.middle k l h;
      after = λ k h. b.after k h ∙ a.after k h;
    }

pub outside_none : (n : ℕ) (w : List ℕ) → Outside n w w
outside_none n w =
    record { same = refl; before = λ k h. refl; middle = λ k l h. refl; after = λ k h. refl }

-- the roots are still there
pub has_roots : (n : ℕ) (roots w w' : List ℕ) → Outside n w w' → HasRoots n roots w
    → HasRoots n roots w'
has_roots n roots w w' o h i l = o.middle (2 * n + i) (omega arith) (omega arith) ∙ h i l

-- what the loop keeps at place p of the order, with the work numbers as they were before it
pub record Linking (w₀ : List ℕ) (n p : ℕ) (w : List ℕ) : Type 0 where
  pub few : p ≤ n
  pub room : 4 * n ≤ length w₀
  pub once : AllOnce n (take n w₀)
  pub small : (k : ℕ) → k < n → get_or w₀ (2 * n + k) 0 < n
  pub outside : Outside n w₀ w
  pub linked : (roots : List ℕ) → HasRoots n roots w₀ → Linked roots n (drop p (take n w₀)) w

-- quarter 0 is still there
order_filled : (n : ℕ) (w w₀ : List ℕ) → 4 * n ≤ length w → Filled n n w w₀
    → take n w₀ ≡ take n w
order_filled n w w₀ room e =
    take_kept n w w₀ e.same (omega arith) (λ k h. e.before k (omega arith))

pub linking_none : (n : ℕ) (w w₀ : List ℕ) → 4 * n ≤ length w → AllOnce n (take n w)
    → ((k : ℕ) → k < n → get_or w (2 * n + k) 0 < n) → Filled n n w w₀ → Linking w₀ n n w₀
linking_none n w w₀ room once small e =
    let here : AllOnce n (take n w₀) =
    subst (AllOnce n) (sym (order_filled n w w₀ room e)) once in
    let long : length (take n w₀) ≤ n = omega (arith, here.long) in
    record {
      few = le_refl n;
      room = omega (arith, e.same);
      once = here;
      small =
          λ k l. subst (λ (m : ℕ). m < n) (sym (e.before (2 * n + k) (omega arith))) (small k l);
      outside = outside_none n w₀;
      linked =
          λ roots h. subst (λ (is : List ℕ). Linked roots n is w₀)
          (sym (drop_of_length-le (take n w₀) long))
          (linked_none roots n w w₀ e);
    }

-- the block at the place before
module _ (w₀ : List ℕ) (n p : ℕ) (w : List ℕ) (pos : 0 < p) (e : Linking w₀ n p w) where
  abbrev i : ℕ
  i = get_or w (p - 1) 0

  below : p - 1 < n
  below = omega (arith, e.few)

  i_is : i ≡ get_or (take n w₀) (p - 1) 0
  i_is = e.outside.before (p - 1) below ∙ sym (get_or-take n w₀ (p - 1) 0 below)

  pub i_small : i < n
  i_small =
      subst (λ (m : ℕ). m < n) (sym i_is)
      (e.once.inside _ (member_at (take n w₀) (p - 1) 0 (omega (arith, e.once.long, below))))

  -- it and what stands behind it
  from_here : drop (p - 1) (take n w₀) ≡ i ∷ drop p (take n w₀)
  from_here =
      let again : suc (p - 1) ≡ p = omega arith in
      drop-cons (take n w₀) (p - 1) 0 (omega (arith, e.once.long, below))
      ∙ rw (sym i_is, again)

  tail_of : Tail n (take n w₀) (i ∷ drop p (take n w₀))
  tail_of =
      subst (Tail n (take n w₀)) from_here
      (tail_drop n (take n w₀) (p - 1) (take n w₀) (tail_all n (take n w₀) e.once))

  pub linking_more : Linking w₀ n (p - 1) (link_one n (get_or w (p - 1) 0) w)
  linking_more =
      record {
        few = omega (arith, e.few);
        room = e.room;
        once = e.once;
        small = e.small;
        outside = outside_more n i w₀ w e.room i_small (e.small i i_small) e.outside;
        linked =
            λ roots h. subst (λ (is : List ℕ). Linked roots n is (link_one n i w)) (sym from_here)
            (linked_more n i w₀ w e.room i_small (e.small i i_small) e.outside roots h
            (take n w₀) (drop p (take n w₀)) tail_of (e.linked roots h));
      }

  -- what link_one asks for
  pub linking_asks : (4 * n ≤ length w) × (get_or w (p - 1) 0 < n)
      × (get_or w (2 * n + get_or w (p - 1) 0) 0 < n)
  linking_asks = (
    omega (arith, e.room, e.outside.same),
    i_small,
    subst (λ (m : ℕ). m < n)
        (sym (e.outside.middle (2 * n + i) (omega arith) (omega (arith, i_small))))
        (e.small i i_small),
  )

-- the loop is done
pub linking_done : (n p : ℕ) (w w₀ w₁ : List ℕ) → 4 * n ≤ length w → Filled n n w w₀ → p ≡ 0
    → Linking w₀ n p w₁ → AllLinked n w w₁
linking_done n p w w₀ w₁ room filled done e roots h =
    subst (λ (is : List ℕ). Linked roots n is w₁) (order_filled n w w₀ room filled)
    (subst (λ (q : ℕ). Linked roots n (drop q (take n w₀)) w₁) done
    (e.linked roots (has_roots n roots w w₀ (outside_fill n w w₀ filled) h)))
