-- The rows of a plan by group and place: the rows of a group are its members in order, and the next
-- group's rows follow them. Assumes nothing.
use Prim.Native.Nat.{ℕ, zero, suc, ◌+◌, ◌*◌, ◌-◌, ◌≤◌, ◌<◌}
use mathlib.Core.Path.{◌≡◌, refl, sym, ap, ap₂, ◌∙◌}
use mathlib.Core.List.{List, [], ◌∷◌, ◌++◌, flatten, Memᴰ}
use native.Mathlib.Decide.{dec_lt}
use native.Mathlib.Nat.{le_of_suc-le-suc}
use native.Mathlib.Omega.{arith}
use lib.ListN.{length, get_or, take, drop, length-append, length-drop}
use lib.Seq.{length-take-le, get_or-take, get_or-drop}
use Rattle.file_blocks.proofs.Accepted.{length_of_lem}
use Rattle.file_blocks.specs.Parse.{blocks_of}
use Rattle.base_lists.specs.Interleave.{interleave}
use Rattle.plan_groups.specs.Plan.{groups, group_rows, rows_from, plan}
use Rattle.plan_groups.proofs.GroupLaws.{group_some, group_inside}
use Rattle.base_lists.proofs.Places.{member_at}
use Rattle.plan_groups.proofs.PlanLength.{rows_length, plan_length}
use Rattle.plan_members.specs.Members.{members_of, start_of}
use Rattle.plan_members.specs.Prepared.{HoldsPlan}

-- row p of some rows: its group and its block
unfoldable row_of : List ℕ → ℕ → ℕ × ℕ
row_of [] p = (0, 0)
row_of (g ∷ []) p = (0, 0)
row_of (g ∷ i ∷ rows) zero = (g, i)
row_of (g ∷ i ∷ rows) (suc p) = row_of rows p

-- two numbers as a row
abbrev pair : ℕ → ℕ → ℕ × ℕ
pair g i = (g, i)

row_of_two : (xs ys : List ℕ) (p : ℕ) → p < length xs → p < length ys
    → row_of (interleave xs ys) p ≡ (get_or xs p 0, get_or ys p 0)
unfolding row_of interleave
row_of_two [] ys p h k = absurd (omega arith)
row_of_two (x ∷ xs) [] p h k = absurd (omega arith)
row_of_two (x ∷ xs) (y ∷ ys) zero h k = refl
row_of_two (x ∷ xs) (y ∷ ys) (suc p) h k =
    row_of_two xs ys p (le_of_suc-le-suc h) (le_of_suc-le-suc k)

-- a row of the first group
row_here : (g : ℕ) (is rest : List ℕ) (k : ℕ) → k < length is
    → row_of (group_rows g is ++ rest) k ≡ (g, get_or is k 0)
unfolding row_of
row_here g [] rest k h = absurd (omega arith)
row_here g (i ∷ is) rest zero h = refl
row_here g (i ∷ is) rest (suc k) h = row_here g is rest k (le_of_suc-le-suc h)

-- a row past the first group
row_past : (g : ℕ) (is rest : List ℕ) (p q : ℕ) → q ≡ length is + p
    → row_of (group_rows g is ++ rest) q ≡ row_of rest p
unfolding row_of
row_past g [] rest p q e = ap (row_of rest) (let same : q ≡ p = omega arith in same)
row_past g (i ∷ is) rest p zero e = absurd (omega arith)
row_past g (i ∷ is) rest p (suc q) e = row_past g is rest p q (omega arith)

row_from : (g : ℕ) (gs : List (List ℕ)) (j k p : ℕ) → p ≡ start_of gs j + k
    → k < length (get_or gs j []) → row_of (rows_from g gs) p ≡ (g + j, get_or (get_or gs j []) k 0)
unfolding rows_from start_of
row_from g [] j k p e h = absurd (omega arith)
row_from g (is ∷ gs) zero k p e h =
    let same : p ≡ k = omega arith in
    let first : g ≡ g + 0 = omega arith in
    ap (row_of (group_rows g is ++ rows_from (suc g) gs)) same
    ∙ row_here g is (rows_from (suc g) gs) k h ∙ ap (λ (m : ℕ). (m, get_or is k 0)) first
row_from g (is ∷ gs) (suc j) k p e h =
    let next : suc g + j ≡ g + suc j = omega arith in
    row_past g is (rows_from (suc g) gs) (start_of gs j + k) p (omega arith)
    ∙ row_from (suc g) gs j k (start_of gs j + k) refl h
    ∙ ap (λ (m : ℕ). (m, get_or (get_or gs j []) k 0)) next

pub start_next : (gs : List (List ℕ)) (g : ℕ)
    → start_of gs (suc g) ≡ start_of gs g + length (get_or gs g [])
unfolding start_of
start_next [] zero = refl
start_next [] (suc g) = refl
start_next (is ∷ gs) zero = omega arith
start_next (is ∷ gs) (suc g) = omega (arith, start_next gs g)

start_within : (gs : List (List ℕ)) (g : ℕ) → start_of gs g ≤ length (flatten gs)
unfolding start_of flatten
start_within gs zero = omega arith
start_within [] (suc g) = omega arith
start_within (is ∷ gs) (suc g) = omega (arith, start_within gs g, length-append is (flatten gs))

start_past : (gs : List (List ℕ)) (g : ℕ) → length gs ≤ g → start_of gs g ≡ length (flatten gs)
unfolding start_of flatten
start_past [] zero h = refl
start_past [] (suc g) h = refl
start_past (is ∷ gs) zero h = absurd (omega arith)
start_past (is ∷ gs) (suc g) h =
    omega (arith, start_past gs g (le_of_suc-le-suc h), length-append is (flatten gs))

pub list_at : (gs : List (List ℕ)) (g : ℕ) → g < length gs → Memᴰ (get_or gs g []) gs
list_at [] g h = absurd (omega arith)
list_at (is ∷ gs) zero h = Memᴰ.head refl
list_at (is ∷ gs) (suc g) h = Memᴰ.tail (list_at gs g (le_of_suc-le-suc h))

-- a group with a member is one of the groups
pub has_member : (gs : List (List ℕ)) (g : ℕ) → 1 ≤ length (get_or gs g []) → g < length gs
has_member [] g h = absurd (omega arith)
has_member (is ∷ gs) zero h = omega arith
has_member (is ∷ gs) (suc g) h = omega (arith, has_member gs g h)

module _ {f : List ℕ} {n limit : ℕ} {work : List ℕ} (ready : HoldsPlan f n limit work) where
  abbrev gs : List (List ℕ)
  gs = groups limit (blocks_of f)

  -- as many blocks as the groups have members
  pub blocks_all : length (blocks_of f) ≡ n
  blocks_all = length_of_lem f (blocks_of f) ready.accepted ∙ sym ready.all

  pub members_all : length (flatten (groups limit (blocks_of f))) ≡ n
  unfolding plan
  members_all =
      omega (
        arith,
        rows_length 0 (groups limit (blocks_of f)),
        plan_length (blocks_of f) limit,
        blocks_all,
      )

  -- the first row of every group, and that after the last one
  pub start_inside : (g : ℕ) → start_of (groups limit (blocks_of f)) g ≤ n
  start_inside g = omega (arith, start_within gs g, members_all)

  -- where a row is left there is a group left
  pub group_left : (g : ℕ) → start_of (groups limit (blocks_of f)) g < n
      → g < length (groups limit (blocks_of f))
  group_left g h =
      elim (dec_lt g (length gs)) [
        | yes l ↦ l
        | no d ↦ absurd (omega (arith, start_past gs g (omega arith), members_all))
      ]

  -- every group has a member
  pub group_has : (g : ℕ) → g < length (groups limit (blocks_of f))
      → 1 ≤ length (members_of limit (blocks_of f) g)
  group_has g h = group_some limit (blocks_of f) (get_or gs g []) (list_at gs g h)

  module _ (p g k : ℕ) (is : p ≡ start_of (groups limit (blocks_of f)) g + k)
      (inside : k < length (members_of limit (blocks_of f) g)) where
    pub row_inside : p < n
    row_inside = omega (arith, start_next gs g, start_inside (suc g))

    row_is : ◌≡◌ {A = ℕ × ℕ} (get_or work (2 * n + p) 0, get_or work p 0)
        (g, get_or (members_of limit (blocks_of f) g) k 0)
    unfolding plan
    row_is =
        let room = ready.room in
        let long : n ≤ length (drop (2 * n) work) = omega (arith, length-drop (2 * n) work) in
        let zero-first : 0 + g ≡ g = omega arith in
        ap₂ pair (sym (get_or-take n (drop (2 * n) work) p 0 row_inside ∙ get_or-drop (2 * n) work p 0))
        (sym (get_or-take n work p 0 row_inside))
        ∙ sym (row_of_two (take n (drop (2 * n) work)) (take n work) p
        (omega (arith, length-take-le n (drop (2 * n) work) long, row_inside))
        (omega (arith, length-take-le n work (omega arith), row_inside)))
        ∙ ap (λ (rows : List ℕ). row_of rows p) ready.rows
        ∙ row_from 0 gs g k p is inside
        ∙ ap (λ (m : ℕ). (m, get_or (get_or gs g []) k 0)) zero-first

    -- the row of a group's member
    pub row_member : get_or work p 0 ≡ get_or (members_of limit (blocks_of f) g) k 0
    row_member = ap (λ (r : ℕ × ℕ). r.1) row_is

    pub row_number : get_or work (2 * n + p) 0 ≡ g
    row_number = ap (λ (r : ℕ × ℕ). r.0) row_is

    -- it is a block
    pub row_block_inside : get_or work p 0 < n
    row_block_inside =
        omega (
          arith,
          row_member,
          blocks_all,
          group_inside limit (blocks_of f) (get_or gs g [])
              (list_at gs g (has_member gs g (omega arith))) (get_or (get_or gs g []) k 0)
              (member_at (get_or gs g []) k 0 inside),
        )

  -- rows from the first one of a group on, all of its number, and none further
  pub end_next : (p g r : ℕ) → p ≡ start_of (groups limit (blocks_of f)) g → p < r → r ≤ n
      → ((q : ℕ) → p ≤ q → q < r → get_or work (2 * n + q) 0 ≡ get_or work (2 * n + p) 0)
      → (r < n → get_or work (2 * n + r) 0 ≡ get_or work (2 * n + p) 0 → ⊥)
      → r ≡ start_of (groups limit (blocks_of f)) (suc g)
  end_next p g r is h within same other =
      let some-here = group_has g (group_left g (omega arith)) in
      let number : get_or work (2 * n + p) 0 ≡ g = row_number p g 0 (omega arith) (omega arith) in
      let next = start_next gs g in
      let far : r < start_of gs (suc g) → ⊥ = λ l.
      other (omega (arith, start_inside (suc g)))
      (row_number r g (r - p) (omega arith) (omega arith) ∙ sym number) in
      let near : start_of gs (suc g) < r → ⊥ = λ l.
      let last : start_of gs (suc g) < n = omega arith in
      let some-there = group_has (suc g) (group_left (suc g) last) in
      let there : get_or work (2 * n + start_of gs (suc g)) 0 ≡ suc g =
      row_number (start_of gs (suc g)) (suc g) 0 (omega arith) (omega arith) in
      omega (arith, there, number, same (start_of gs (suc g)) (omega arith) l) in
      omega arith
