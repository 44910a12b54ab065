-- The plan's rows are the emission order beside its group numbers, as the code makes them.
-- Assumes nothing.
use mathlib.Core.Path.{◌≡◌, refl, sym, ap, ap₂, ◌∙◌}
use mathlib.Core.Bool.{Bool, true, false, not, cond}
use mathlib.Core.List.{List, [], ◌∷◌, ◌++◌, map, append_assoc, Memᴰ}
use Prim.Native.Nat.{ℕ, zero, suc, zero-le, ◌+◌, ◌≤◌, ◌<◌}
use native.Mathlib.Nat.{zero-add, le_refl}
use native.Mathlib.Numerals.{one-add}
use native.Mathlib.Omega.{arith}
use native.Mathlib.Decide.{ℕ_discrete}
use borrow.Author.Tests.{eq-eqb, ne_eqb}
use lib.ListN.{length, get_or, length-append, length-map}
use lib.Dec.{eqb}
use Rattle.base_lists.specs.Lists.{is_empty, range}
use Rattle.base_lists.specs.Interleave.{interleave}
use Rattle.base_forest.specs.Roots.{root}
use Rattle.file_blocks.specs.Parse.{Block, block_key}
use Rattle.file_keys.specs.Order.{sort_by_key, key_order}
use Rattle.file_keys.specs.Digits.{keep}
use Rattle.file_keys.proofs.Members.{members_order}
use Rattle.plan_groups.specs.Order.{with_root_in, order_from, numbers_of, next_group, numbers_from}
use Rattle.plan_groups.specs.Plan.{with_root, closes, parents, parts, groups_from, groups}
use Rattle.plan_groups.specs.Plan.{group_rows, rows_from, plan}
use Rattle.plan_groups.proofs.Components.{component, counts_of}
use Rattle.plan_groups.proofs.Ordering.{length_numbers}

-- the members of a component, by a list of roots
members_rooted : (p roots : List ℕ) (r left k : ℕ)
    → ((j : ℕ) → k ≤ j → j < k + left → get_or roots j 0 ≡ root p j)
    → with_root (root p) r left k ≡ with_root_in roots r (range left k)
unfolding with_root keep
members_rooted p roots r zero k same = refl
members_rooted p roots r (suc left) k same =
    rw (
      same k (le_refl k) (omega arith),
      members_rooted p roots r left (suc k)
          (λ j l b. same j (omega arith) (omega arith)),
    )

-- in the order of their keys they are the order of all blocks, the others left out
pub component_is : (bs : List Block) (roots : List ℕ)
    → ((j : ℕ) → j < length bs → get_or roots j 0 ≡ root (parents bs) j) → (r : ℕ)
    → component bs r ≡ with_root_in roots r (key_order (map block_key bs))
component_is bs roots same r =
    ap (sort_by_key (map block_key bs))
    (members_rooted (parents bs) roots r (length bs) 0 (λ j l b. same j (rw zero-add at b))
    ∙ ap (λ (n : ℕ). with_root_in roots r (range n 0)) (sym (length-map bs block_key)))
    ∙ members_order (λ (i : ℕ). eqb (get_or roots i 0) r) (map block_key bs)

group_rows_append : (g : ℕ) (xs ys : List ℕ)
    → group_rows g (xs ++ ys) ≡ group_rows g xs ++ group_rows g ys
group_rows_append g [] ys = refl
group_rows_append g (x ∷ xs) ys = ap (λ (l : List ℕ). g ∷ x ∷ l) (group_rows_append g xs ys)

not_empty : (xs : List ℕ) (y : ℕ) → is_empty (xs ++ (y ∷ [])) ≡ false
not_empty [] y = refl
not_empty (x ∷ xs) y = refl

-- the rows of a component that is cut into parts, with a part that is being filled
rows_parts : (limit : ℕ) (counts : List ℕ) (part : List ℕ) (g t : ℕ) (is : List ℕ)
    (gs : List (List ℕ))
    → rows_from g (parts limit counts part t is ++ gs)
    ≡ group_rows g part
    ++ (interleave (numbers_of limit counts g t (not (is_empty part)) is) is
    ++ rows_from (next_group limit counts g t (not (is_empty part)) is) gs)
unfolding parts rows_from interleave numbers_of next_group
rows_parts limit counts [] g t [] gs = refl
rows_parts limit counts (x ∷ xs) g t [] gs = refl
rows_parts limit counts part g t (i ∷ is) gs =
    go (closes limit t (not (is_empty part)) (get_or counts i 0))
    (rows_parts limit counts (i ∷ []) (suc g) (get_or counts i 0) is gs)
    (rows_parts limit counts (part ++ (i ∷ [])) g (t + get_or counts i 0) is gs)
  where
    go : (b : Bool)
        → rows_from (suc g) (parts limit counts (i ∷ []) (get_or counts i 0) is ++ gs)
        ≡ group_rows (suc g) (i ∷ [])
        ++ (interleave (numbers_of limit counts (suc g) (get_or counts i 0) true is) is
        ++ rows_from (next_group limit counts (suc g) (get_or counts i 0) true is) gs)
        → rows_from g (parts limit counts (part ++ (i ∷ [])) (t + get_or counts i 0) is ++ gs)
        ≡ group_rows g (part ++ (i ∷ []))
        ++ (interleave
        (numbers_of limit counts g (t + get_or counts i 0) (not (is_empty (part ++ (i ∷ [])))) is)
        is
        ++ rows_from
        (next_group limit counts g (t + get_or counts i 0) (not (is_empty (part ++ (i ∷ [])))) is)
        gs)
        → rows_from g
        (cond b (part ∷ parts limit counts (i ∷ []) (get_or counts i 0) is)
        (parts limit counts (part ++ (i ∷ [])) (t + get_or counts i 0) is) ++ gs)
        ≡ group_rows g part
        ++ (interleave
        (cond b (suc g ∷ numbers_of limit counts (suc g) (get_or counts i 0) true is)
        (g ∷ numbers_of limit counts g (t + get_or counts i 0) true is)) (i ∷ is)
        ++ rows_from
        (cond b (next_group limit counts (suc g) (get_or counts i 0) true is)
        (next_group limit counts g (t + get_or counts i 0) true is)) gs)
    go true e e' = ap (λ (l : List ℕ). group_rows g part ++ l) e
    go false e e' = e'
        ∙ rw (not_empty part i, group_rows_append g part (i ∷ []))
        (append_assoc (group_rows g part) (g ∷ i ∷ []) _)

interleave_append : (xs ys xs' ys' : List ℕ) → length xs ≡ length ys
    → interleave (xs ++ xs') (ys ++ ys') ≡ interleave xs ys ++ interleave xs' ys'
unfolding interleave
interleave_append [] [] xs' ys' e = refl
interleave_append [] (y ∷ ys) xs' ys' e = absurd (omega arith)
interleave_append (x ∷ xs) [] xs' ys' e = absurd (omega arith)
interleave_append (x ∷ xs) (y ∷ ys) xs' ys' e =
    ap (λ (l : List ℕ). x ∷ y ∷ l) (interleave_append xs ys xs' ys' (omega arith))

-- the rows of the components from component r on
rows_groups : (limit : ℕ) (bs : List Block) (roots order : List ℕ) (g left r : ℕ)
    → ((s : ℕ) → component bs s ≡ with_root_in roots s order)
    → rows_from g (groups_from limit bs (parents bs) left r)
    ≡ interleave (numbers_from limit (counts_of bs) roots order g left r)
    (order_from roots order left r)
unfolding rows_from groups_from interleave numbers_from order_from
rows_groups limit bs roots order g zero r same = refl
rows_groups limit bs roots order g (suc left) r same =
    ap (λ (is : List ℕ). rows_from g
    (parts limit (counts_of bs) [] 0 is ++ groups_from limit bs (parents bs) left (suc r))) (same r)
    ∙ rows_parts limit (counts_of bs) [] g 0 (with_root_in roots r order)
    (groups_from limit bs (parents bs) left (suc r))
    ∙ ap (λ (l : List ℕ). interleave
    (numbers_of limit (counts_of bs) g 0 false (with_root_in roots r order))
    (with_root_in roots r order) ++ l)
    (rows_groups limit bs roots order
    (next_group limit (counts_of bs) g 0 false (with_root_in roots r order)) left (suc r) same)
    ∙ sym (interleave_append
    (numbers_of limit (counts_of bs) g 0 false (with_root_in roots r order))
    (with_root_in roots r order) _ _
    (length_numbers limit (counts_of bs) g 0 false (with_root_in roots r order)))

-- the plan, as the code makes it from the roots of the blocks and the order of their keys
pub plan_is : (limit : ℕ) (bs : List Block) (roots : List ℕ)
    → ((j : ℕ) → j < length bs → get_or roots j 0 ≡ root (parents bs) j)
    → plan limit bs
    ≡ interleave
    (numbers_from limit (counts_of bs) roots (key_order (map block_key bs)) 0 (length bs) 0)
    (order_from roots (key_order (map block_key bs)) (length bs) 0)
unfolding plan groups
plan_is limit bs roots same =
    rows_groups limit bs roots (key_order (map block_key bs)) 0 (length bs) 0
    (component_is bs roots same)

-- how many of `left` numbers from r on are x
hits : ℕ → ℕ → ℕ → ℕ
hits x zero r = 0
hits x (suc left) r = cond (eqb x r) 1 0 + hits x left (suc r)

hits_none : (x left r : ℕ) → x < r → hits x left r ≡ 0
unfolding hits
hits_none x zero r h = refl
hits_none x (suc left) r h =
    rw (ne_eqb x r (omega arith)) (zero-add _ ∙ hits_none x left (suc r) (omega arith))

hits_one : (x left r : ℕ) → r ≤ x → x < r + left → hits x left r ≡ 1
unfolding hits
hits_one x zero r l h = absurd (omega arith)
hits_one x (suc left) r l h =
    elim (ℕ_discrete x r) [
      | yes e ↦ rw (eq-eqb x r e) (ap (λ (n : ℕ). 1 + n) (hits_none x left (suc r) (omega arith)))
      | no g ↦ rw (ne_eqb x r g) (zero-add _ ∙ hits_one x left (suc r) (omega arith) (omega arith))
    ]

-- the members of `left` components from component r on among some blocks
total : List ℕ → ℕ → ℕ → List ℕ → ℕ
total roots zero r is = 0
total roots (suc left) r is = length (with_root_in roots r is) + total roots left (suc r) is

total_none : (roots : List ℕ) (left r : ℕ) → total roots left r [] ≡ 0
unfolding total keep
total_none roots zero r = refl
total_none roots (suc left) r = zero-add _ ∙ total_none roots left (suc r)

total_more : (roots : List ℕ) (left r i : ℕ) (is : List ℕ)
    → total roots left r (i ∷ is) ≡ hits (get_or roots i 0) left r + total roots left r is
unfolding total keep hits
total_more roots zero r i is = refl
total_more roots (suc left) r i is =
    go (eqb (get_or roots i 0) r) (total_more roots left (suc r) i is)
  where
    go : (b : Bool)
        → total roots left (suc r) (i ∷ is)
        ≡ hits (get_or roots i 0) left (suc r) + total roots left (suc r) is
        → length (cond b (i ∷ with_root_in roots r is) (with_root_in roots r is)) + total roots left
        (suc r) (i ∷ is)
        ≡ cond b 1 0 + hits (get_or roots i 0) left (suc r)
        + (length (with_root_in roots r is) + total roots left (suc r) is)
    go true e = omega (arith, e)
    go false e = omega (arith, e)

total_all : (roots : List ℕ) (n : ℕ) (is : List ℕ)
    → ((j : ℕ) → Memᴰ j is → get_or roots j 0 < n) → total roots n 0 is ≡ length is
total_all roots n [] h = total_none roots n 0
total_all roots n (i ∷ is) h =
    total_more roots n 0 i is
    ∙ ap₂ (λ (a b : ℕ). a + b)
    (hits_one (get_or roots i 0) n 0 zero-le
    (let small = h i (Memᴰ.head refl) in omega arith))
    (total_all roots n is (λ j m. h j (Memᴰ.tail m)))
    ∙ one-add (length is)

length_order : (roots order : List ℕ) (left r : ℕ)
    → length (order_from roots order left r) ≡ total roots left r order
unfolding order_from total
length_order roots order zero r = refl
length_order roots order (suc left) r = length-append (with_root_in roots r order) _
    ∙ ap (λ (m : ℕ). length (with_root_in roots r order) + m) (length_order roots order left (suc r))

-- every block is placed once
pub order_all : (roots order : List ℕ) (n : ℕ)
    → ((j : ℕ) → Memᴰ j order → get_or roots j 0 < n)
    → length (order_from roots order n 0) ≡ length order
order_all roots order n h = length_order roots order n 0 ∙ total_all roots n order h
