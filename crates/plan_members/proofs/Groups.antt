-- The group of each block in quarter 1, as the rows are gone through from the last to the first.
-- Assumes nothing.
use Prim.Native.Nat.{ℕ, suc, ◌+◌, ◌*◌, ◌≤◌, ◌<◌}
use mathlib.Core.Path.{◌≡◌, refl, sym, ap, ap₂, ◌∙◌}
use mathlib.Core.List.{List, [], ◌∷◌}
use native.Mathlib.Decide.{ℕ_discrete}
use native.Mathlib.Numerals.{add-one}
use native.Mathlib.Omega.{arith}
use borrow.Author.Tests.{eq-eqb, ne_eqb}
use lib.ListN.{length, get_or, set, take, drop, length-set, length-take, length-drop}
use lib.ListN.{drop_of_length-le}
use lib.Seq.{length-take-le, drop-cons, get_or-take, get_or-drop, get_or-set_same, get_or-set_other}
use Rattle.file_blocks.specs.Parse.{blocks_of}
use Rattle.plan_groups.specs.Groups.{Grouped}
use Rattle.base_lists.specs.Interleave.{interleave}
use Rattle.plan_groups.specs.Plan.{plan, group_of}
use Rattle.plan_members.specs.Numbers.{rows_in_from, GroupsFrom}

-- past the last row there is none
rows_end : (n : ℕ) (work : List ℕ) → rows_in_from n work n ≡ []
unfolding interleave
rows_end n work =
    let few : length (take n (drop (2 * n) work)) ≤ n =
    omega (arith, length-take n (drop (2 * n) work)) in
    rw (drop_of_length-le (take n (drop (2 * n) work)) few)

-- row p, and the rows after it
rows_next : (n : ℕ) (work : List ℕ) (p : ℕ) → p < n → 4 * n ≤ length work
    → rows_in_from n work p ≡ get_or work (2 * n + p) 0 ∷ get_or work p 0 ∷ rows_in_from n work (p + 1)
unfolding interleave
rows_next n work p h room =
    let long : n ≤ length (drop (2 * n) work) = omega (arith, length-drop (2 * n) work) in
    let groups = take n (drop (2 * n) work) in
    let blocks = take n work in
    rw (
      add-one p,
      drop-cons groups p 0 (omega (arith, length-take-le n (drop (2 * n) work) long)),
      drop-cons blocks p 0 (omega (arith, length-take-le n work (omega arith))),
    )
    (ap₂ (λ (g j : ℕ). g ∷ j ∷ interleave (drop (suc p) groups) (drop (suc p) blocks))
    (get_or-take n (drop (2 * n) work) p 0 h ∙ get_or-drop (2 * n) work p 0)
    (get_or-take n work p 0 h))

-- quarter 1 is 0 up to i, and no other number changed
pub record Zeroed (n i : ℕ) (work work' : List ℕ) : Type 0 where
  pub same : length work' ≡ length work
  pub before : (k : ℕ) → k < n → get_or work' k 0 ≡ get_or work k 0
  pub after : (k : ℕ) → 2 * n ≤ k → get_or work' k 0 ≡ get_or work k 0
  pub zeros : (j : ℕ) → j < i → get_or work' (n + j) 0 ≡ 0

pub zeroed_none : (n : ℕ) (work : List ℕ) → Zeroed n 0 work work
zeroed_none n work =
    record {
      same = refl;
      before = λ k h. refl;
      after = λ k h. refl;
      zeros = λ j h. absurd (omega arith);
    }

pub zeroed_more : (n i : ℕ) (work work' : List ℕ) → i < n → 4 * n ≤ length work
    → Zeroed n i work work' → Zeroed n (i + 1) work (set work' (n + i) 0)
zeroed_more n i work work' h room z =
    record {
      same = length-set work' (n + i) 0 ∙ z.same;
      before = λ k b. get_or-set_other work' (n + i) k 0 0 (λ e. omega arith) ∙ z.before k b;
      after = λ k b. get_or-set_other work' (n + i) k 0 0 (λ e. omega arith) ∙ z.after k b;
      zeros = zero-at;
    }
  where
    zero-at : (j : ℕ) → j < i + 1 → get_or (set work' (n + i) 0) (n + j) 0 ≡ 0
    zero-at j b =
        elim (ℕ_discrete j i) [
          | yes e ↦ ap (λ (m : ℕ). get_or (set work' (n + i) 0) (n + m) 0) e
              ∙ get_or-set_same work' (n + i) 0 0 (omega (arith, z.same))
          | no d ↦ get_or-set_other work' (n + i) (n + j) 0 0 (λ e. d (omega arith))
              ∙ z.zeros j (omega arith)
        ]

pub groups_none : (n i : ℕ) (work work' : List ℕ) → n ≤ i → Zeroed n i work work'
    → GroupsFrom n n work work'
unfolding group_of
groups_none n i work work' h z =
    record {
      same = z.same;
      before = z.before;
      after = z.after;
      groups = λ j b. z.zeros j (omega arith) ∙ ap (group_of j) (sym (rows_end n work));
    }

module _ (n p i : ℕ) (work₀ work : List ℕ) (h : p < n) (room : 4 * n ≤ length work)
    (is : i ≡ get_or work p 0) (from : GroupsFrom n (p + 1) work₀ work) where
  row : rows_in_from n work₀ p ≡ get_or work (2 * n + p) 0 ∷ i ∷ rows_in_from n work₀ (p + 1)
  row =
      rows_next n work₀ p h (omega (arith, from.same))
      ∙ ap₂ (λ (g j : ℕ). g ∷ j ∷ rows_in_from n work₀ (p + 1))
      (sym (from.after (2 * n + p) (omega arith))) (sym (from.before p h) ∙ sym is)

  other : (j : ℕ) → j < n → (i ≡ j → ⊥) → get_or work (n + j) 0 ≡ group_of j (rows_in_from n work₀ p)
  unfolding group_of
  other j b d = from.groups j b ∙ sym (ap (group_of j) row ∙ rw (ne_eqb i j d))

  here : group_of i (rows_in_from n work₀ p) ≡ get_or work (2 * n + p) 0
  unfolding group_of
  here = ap (group_of i) row ∙ rw (eq-eqb i i refl)

  -- a row of one of the blocks
  pub groups_put : i < n → GroupsFrom n p work₀ (set work (n + i) (get_or work (2 * n + p) 0))
  groups_put b =
      record {
        same = length-set work (n + i) _ ∙ from.same;
        before = λ k c. get_or-set_other work (n + i) k _ 0 (λ e. omega arith) ∙ from.before k c;
        after = λ k c. get_or-set_other work (n + i) k _ 0 (λ e. omega arith) ∙ from.after k c;
        groups = group_at;
      }
    where
      group_at : (j : ℕ) → j < n
          → get_or (set work (n + i) (get_or work (2 * n + p) 0)) (n + j) 0
          ≡ group_of j (rows_in_from n work₀ p)
      group_at j c =
          elim (ℕ_discrete i j) [
            | yes e ↦ ap (λ (m : ℕ). get_or (set work (n + i) (get_or work (2 * n + p) 0)) (n + m) 0)
                (sym e) ∙ get_or-set_same work (n + i) _ 0 (omega arith)
                ∙ sym here ∙ ap (λ (m : ℕ). group_of m (rows_in_from n work₀ p)) e
            | no d ↦ get_or-set_other work (n + i) (n + j) _ 0 (λ e. d (omega arith)) ∙ other j c d
          ]

  -- a row of none of them
  pub groups_kept : n ≤ i → GroupsFrom n p work₀ work
  groups_kept b =
      record {
        same = from.same;
        before = from.before;
        after = from.after;
        groups = λ j c. other j c (λ e. omega arith);
      }

-- the groups of all rows, where the rows are a plan
module _ {f : List ℕ} {n limit : ℕ} {work work₁ work₂ : List ℕ}
    (grouped : Grouped f n limit work work₁) (put : GroupsFrom n 0 work₁ work₂) where
  pub groups_planned : (i : ℕ) → i < n
      → get_or work₂ (n + i) 0 ≡ group_of i (plan limit (blocks_of f))
  groups_planned i h = put.groups i h ∙ ap (group_of i) grouped.rows

  pub groups_room : length work₂ ≡ length work
  groups_room = put.same ∙ grouped.same

  pub groups_past : (k : ℕ) → 4 * n ≤ k → get_or work₂ k 0 ≡ get_or work k 0
  groups_past k h = put.after k (omega arith) ∙ grouped.after k h
