-- An order in which each block stands once: what stands behind a block, and the order of keys as
-- one.
-- Assumes nothing.
use Prim.Native.Nat.{ℕ, zero, suc, ◌≤◌, ◌<◌}
use mathlib.Core.Path.{◌≡◌, refl, sym, ap, ◌∙◌}
use mathlib.Core.Bool.{Bool, true, false, cond}
use mathlib.Core.List.{List, [], ◌∷◌, Memᴰ}
use native.Mathlib.Omega.{arith}
use native.Mathlib.Decide.{ℕ_discrete}
use borrow.Author.Tests.{eq-eqb, ne_eqb}
use lib.ListN.{length, drop}
use lib.Dec.{eqb}
use Rattle.base_lists.specs.Lists.{range, count}
use Rattle.base_lists.proofs.Counts.{count_here, count_other, none_counted}
use Rattle.base_lists.proofs.Order.{InOrder, once_apart}
use Rattle.file_keys.specs.Order.{key_order}
use Rattle.file_keys.proofs.Ordered.{is_order, range_from}
use Rattle.file_keys.proofs.Sorted.{sort_count}
use Rattle.plan_groups.specs.Links.{behind, AllOnce}

pub behind_here : (i : ℕ) (is : List ℕ) → behind i (i ∷ is) ≡ is
unfolding behind
behind_here i is = rw (eq-eqb i i refl)

pub behind_past : (j i : ℕ) (is : List ℕ) → (i ≡ j → ⊥) → behind j (i ∷ is) ≡ behind j is
unfolding behind
behind_past j i is g = rw (ne_eqb i j g)

-- the part of an order from some place on
pub record Tail (n : ℕ) (order is : List ℕ) : Type 0 where
  pub apart : InOrder (λ i j. i ≡ j → ⊥) is
  pub inside : (j : ℕ) → Memᴰ j is → j < n
  pub same : (j : ℕ) → Memᴰ j is → behind j order ≡ behind j is

module _ (n : ℕ) (order : List ℕ) where
  pub tail_all : AllOnce n order → Tail n order order
  tail_all o =
      record { apart = once_apart order o.once; inside = o.inside; same = λ j m. refl }

  pub tail_next : (i : ℕ) (is : List ℕ) → Tail n order (i ∷ is) → Tail n order is
  tail_next i is t =
      record {
        apart = t.apart.1;
        inside = λ j m. t.inside j (Memᴰ.tail m);
        same = λ j m. t.same j (Memᴰ.tail m) ∙ behind_past j i is (t.apart.0 j m);
      }

  -- what stands behind its first block is the rest of it
  pub tail_here : (i : ℕ) (is : List ℕ) → Tail n order (i ∷ is) → behind i order ≡ is
  tail_here i is t = t.same i (Memᴰ.head refl) ∙ behind_here i is

  pub tail_behind : (h : ℕ) (is : List ℕ) → Tail n order is → Tail n order (behind h is)
  unfolding behind
  tail_behind h [] t = t
  tail_behind h (i ∷ is) t =
      go (eqb i h) (tail_next i is t) (tail_behind h is (tail_next i is t))
    where
      go : (b : Bool) → Tail n order is → Tail n order (behind h is)
          → Tail n order (cond b is (behind h is))
      go true a c = a
      go false a c = c

  pub tail_drop : (p : ℕ) (is : List ℕ) → Tail n order is → Tail n order (drop p is)
  tail_drop zero is t = t
  tail_drop (suc p) [] t = t
  tail_drop (suc p) (i ∷ is) t = tail_drop p is (tail_next i is t)

range_once : (n k i : ℕ) → count i (range n k) ≤ 1
unfolding count
range_once zero k i = omega arith
range_once (suc n) k i =
    elim (ℕ_discrete i k) [
      | yes e ↦ omega (
        arith,
        ap (λ (j : ℕ). count i (j ∷ range n (suc k))) (sym e),
        count_here i (range n (suc k)),
        none_counted (λ (m : Memᴰ i (range n (suc k))).
            omega (arith, (range_from n (suc k) m).0)),
      )
      | no g ↦ omega (arith, count_other i k (range n (suc k)) g, range_once n (suc k) i)
    ]

-- the order of keys is such an order
pub order_once : (keys order : List ℕ) (n : ℕ) → n ≡ length keys → order ≡ key_order keys
    → AllOnce n order
order_once keys order n size e =
    let o = is_order keys order e in
    record {
      long = o.long ∙ sym size;
      inside = λ i m. omega (arith, o.member m);
      all = λ i h. o.has i (omega arith);
      once = λ i. omega (
        arith,
        ap (count i) e,
        sort_count keys i (range (length keys) 0),
        range_once (length keys) 0 i,
      );
    }
