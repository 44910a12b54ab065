-- The emission order: what is left of a component at a member, and one block or one component more.
-- Assumes nothing.
use mathlib.Core.Path.{◌≡◌, refl, sym, ap, ap₂, ◌∙◌, subst}
use mathlib.Core.Bool.{Bool, true, false, cond, true≢false}
use mathlib.Core.List.Memᴰ
use mathlib.Core.List.{List, [], ◌∷◌, ◌++◌, append_assoc, append-nil}
use Prim.Native.Nat.{ℕ, zero, suc, pred, zero-le, ◌+◌, ◌*◌, ◌-◌, ◌≤◌, ◌<◌, ◌^◌}
use native.Mathlib.Nat.{sub-zero, le_refl}
use native.Mathlib.Omega.{arith}
use native.Mathlib.Numerals.{add-one}
use borrow.Author.Tests.{eqb-true, lt-ltb, le-ltb}
use lib.ListN.{length, get_or, set, take, drop, length-set, length-append, length-drop}
use lib.Seq.{get_or-set_other, take-suc-set, take-set-le, drop-set-lt, drop-set-add, length-take-le}
use lib.Dec.{eqb, ltb}
use Rattle.file_keys.specs.Digits.{keep}
use Rattle.plan_groups.specs.declared.order.Part.{Part}
use Rattle.plan_groups.specs.Links.{seek, behind, AllOnce, Linked}
use Rattle.plan_groups.specs.Plan.{closes}
use Rattle.plan_groups.specs.Order.{with_root_in, members_from, order_from, numbers_of, next_group}
use Rattle.plan_groups.specs.Order.{numbers_from, HasCounts, Placed}
use Rattle.base_lists.proofs.Bools.{right_true}
use Rattle.plan_groups.proofs.Tails.{Tail, tail_all, tail_next, tail_here, tail_behind}

-- what is left of a component at the member that a search finds is what the search went over
pub from_seek : (roots order : List ℕ) (r n : ℕ) (is : List ℕ) → Tail n order is
    → members_from roots order r n (seek roots r n is) ≡ with_root_in roots r is
unfolding seek members_from keep
from_seek roots order r n [] t = rw (le-ltb n n (le_refl n))
from_seek roots order r n (i ∷ is) t =
    go (eqb (get_or roots i 0) r) (from_seek roots order r n is (tail_next n order i is t))
  where
    go : (b : Bool)
        → members_from roots order r n (seek roots r n is) ≡ with_root_in roots r is
        → members_from roots order r n (cond b i (seek roots r n is))
        ≡ cond b (i ∷ with_root_in roots r is) (with_root_in roots r is)
    go true h = rw (lt-ltb i n (t.inside i (Memᴰ.head refl)), tail_here n order i is t)
    go false h = h

-- a search that finds a member finds one of its component
pub seek_root : (roots : List ℕ) (r n : ℕ) (is : List ℕ) → seek roots r n is < n
    → get_or roots (seek roots r n is) 0 ≡ r
unfolding seek
seek_root roots r n [] h = absurd (omega arith)
seek_root roots r n (i ∷ is) h = go (eqb (get_or roots i 0) r) refl (seek_root roots r n is) h
  where
    go : (b : Bool) → eqb (get_or roots i 0) r ≡ b
        → (seek roots r n is < n → get_or roots (seek roots r n is) 0 ≡ r)
        → cond b i (seek roots r n is) < n
        → get_or roots (cond b i (seek roots r n is)) 0 ≡ r
    go true g ih h' = eqb-true _ _ g
    go false g ih h' = ih h'

pub from_member : (roots order : List ℕ) (r n h : ℕ) → AllOnce n order → h < n
    → members_from roots order r n h
    ≡ h ∷ members_from roots order r n (seek roots r n (behind h order))
unfolding members_from
from_member roots order r n h once l =
    ap (λ (b : Bool). cond b (h ∷ with_root_in roots r (behind h order)) []) (lt-ltb _ _ l)
    ∙ ap (λ (xs : List ℕ). h ∷ xs)
    (sym (from_seek roots order r n (behind h order)
    (tail_behind n order h order (tail_all n order once))))

pub from_none : (roots order : List ℕ) (r n h : ℕ) → n ≤ h → members_from roots order r n h ≡ []
unfolding members_from
from_none roots order r n h l = rw (le-ltb _ _ l)

pred_more : (r : ℕ) → pred (r + 1) ≡ r
pred_more r = omega arith

-- a front that is as long as the whole is the whole
whole : (xs ys zs : List ℕ) → zs ≡ xs ++ ys → length zs ≡ length xs → xs ≡ zs
whole xs [] zs e h = sym (e ∙ append-nil xs)
whole xs (y ∷ ys) zs e h = absurd (omega (arith, ap length e, length-append xs (y ∷ ys)))

pub length_numbers : (limit : ℕ) (counts : List ℕ) (g t : ℕ) (o : Bool) (is : List ℕ)
    → length (numbers_of limit counts g t o is) ≡ length is
unfolding numbers_of
length_numbers limit counts g t o [] = refl
length_numbers limit counts g t o (i ∷ is) =
    go (closes limit t o (get_or counts i 0))
    (length_numbers limit counts (suc g) (get_or counts i 0) true is)
    (length_numbers limit counts g (t + get_or counts i 0) true is)
  where
    go : (b : Bool) → length (numbers_of limit counts (suc g) (get_or counts i 0) true is) ≡ length is
        → length (numbers_of limit counts g (t + get_or counts i 0) true is) ≡ length is
        → length
        (cond b (suc g ∷ numbers_of limit counts (suc g) (get_or counts i 0) true is)
        (g ∷ numbers_of limit counts g (t + get_or counts i 0) true is)) ≡ suc (length is)
    go true a c = ap suc a
    go false a c = ap suc c

-- each block has one group number
length_all : (limit : ℕ) (counts roots order : List ℕ) (g left r : ℕ)
    → length (numbers_from limit counts roots order g left r) ≡ length (order_from roots order left r)
unfolding numbers_from order_from
length_all limit counts roots order g zero r = refl
length_all limit counts roots order g (suc left) r =
    length-append (numbers_of limit counts g 0 false (with_root_in roots r order)) _
    ∙ ap₂ (λ (a b : ℕ). a + b) (length_numbers limit counts g 0 false (with_root_in roots r order))
    (length_all limit counts roots order
    (next_group limit counts g 0 false (with_root_in roots r order)) left (suc r))
    ∙ sym (length-append (with_root_in roots r order) (order_from roots order left (suc r)))

-- the two stores of a row
module _ (n place i g : ℕ) (w : List ℕ) (room : 4 * n ≤ length w) (h : place < n) where
  abbrev row : List ℕ
  row = set (set w place i) (2 * n + place) g

  pub row_length : length row ≡ length w
  row_length = length-set (set w place i) (2 * n + place) g ∙ length-set w place i

  -- a number that neither store reached
  pub row_other : (k : ℕ) → (k ≡ place → ⊥) → (k ≡ 2 * n + place → ⊥) → get_or row k 0 ≡ get_or w k 0
  row_other k a b =
      get_or-set_other (set w place i) (2 * n + place) k g 0 b ∙ get_or-set_other w place k i 0 a

  pub row_order : take (place + 1) row ≡ take place w ++ (i ∷ [])
  row_order =
      rw (add-one place)
      (take-set-le (suc place) (set w place i) (2 * n + place) g (omega arith)
      ∙ take-suc-set w place i (omega arith))

  pub row_number : take (place + 1) (drop (2 * n) row) ≡ take place (drop (2 * n) w) ++ (g ∷ [])
  row_number =
      rw (add-one place)
      (ap (take (suc place)) (drop-set-add (2 * n) (set w place i) place g)
      ∙ take-suc-set (drop (2 * n) (set w place i)) place g
      (simp (length-drop, length-set) (omega arith))
      ∙ ap (λ (l : List ℕ). take place l ++ (g ∷ [])) (drop-set-lt (2 * n) w place i (omega arith)))

-- one member more of a component: its number, and what follows
numbers_step : (limit : ℕ) (counts : List ℕ) (g t : ℕ) (o : Bool) (i : ℕ) (is : List ℕ) (b : Bool)
    → closes limit t o (get_or counts i 0) ≡ b
    → numbers_of limit counts g t o (i ∷ is)
    ≡ cond b (g + 1) g
    ∷ numbers_of limit counts (cond b (g + 1) g) (cond b (get_or counts i 0) (t + get_or counts i 0))
    true is
unfolding numbers_of
numbers_step limit counts g t o i is true e = rw (e, add-one g)
numbers_step limit counts g t o i is false e = rw e

next_step : (limit : ℕ) (counts : List ℕ) (g t : ℕ) (o : Bool) (i : ℕ) (is : List ℕ) (b : Bool)
    → closes limit t o (get_or counts i 0) ≡ b
    → next_group limit counts g t o (i ∷ is)
    ≡ next_group limit counts (cond b (g + 1) g) (cond b (get_or counts i 0) (t + get_or counts i 0))
    true is
unfolding next_group
next_step limit counts g t o i is true e = rw (e, add-one g)
next_step limit counts g t o i is false e = rw e

module _ (f w₀ : List ℕ) (n limit : ℕ) where
  abbrev roots : List ℕ
  roots = drop (2 * n) w₀

  abbrev order : List ℕ
  order = take n w₀

  -- what the loop keeps
  pub record Placing (place group total : ℕ) (isOpen : Bool) (r h : ℕ) (w : List ℕ) : Type 0 where
    pub few : n ≤ 65536
    pub room : 4 * n ≤ length w₀
    pub once : AllOnce n (take n w₀)
    pub linked : Linked (drop (2 * n) w₀) n (take n w₀) w₀
    pub placed : place ≤ n
    pub begun : r ≤ n
    pub groups : group ≤ place
    pub partly : isOpen ≡ true → group < place
    pub small : total ≤ 2 ^ 32 * place
    pub same : length w ≡ length w₀
    pub after : (k : ℕ) → 4 * n ≤ k → get_or w k 0 ≡ get_or w₀ k 0
    pub nexts : (k : ℕ) → k < n → get_or w (n + k) 0 ≡ get_or w₀ (n + k) 0
    pub firsts : (k : ℕ) → k < n → get_or w (3 * n + k) 0 ≡ get_or w₀ (3 * n + k) 0
    pub member : h < n → get_or (drop (2 * n) w₀) h 0 ≡ pred r
    pub rows : order_from (drop (2 * n) w₀) (take n w₀) n 0
        ≡ take place w
        ++ (members_from (drop (2 * n) w₀) (take n w₀) (pred r) n h
        ++ order_from (drop (2 * n) w₀) (take n w₀) (n - r) r)
    pub numbers : (counts : List ℕ) → HasCounts f counts
        → numbers_from limit counts (drop (2 * n) w₀) (take n w₀) 0 n 0
        ≡ take place (drop (2 * n) w)
        ++ (numbers_of limit counts group total isOpen
        (members_from (drop (2 * n) w₀) (take n w₀) (pred r) n h)
        ++ numbers_from limit counts (drop (2 * n) w₀) (take n w₀)
        (next_group limit counts group total isOpen
        (members_from (drop (2 * n) w₀) (take n w₀) (pred r) n h)) (n - r) r)

  pub placing_none : n ≤ 65536 → 4 * n ≤ length w₀ → AllOnce n (take n w₀)
      → Linked (drop (2 * n) w₀) n (take n w₀) w₀ → Placing 0 0 0 false 0 n w₀
  unfolding numbers_of next_group
  placing_none few room once linked =
      record {
        few = few;
        room = room;
        once = once;
        linked = linked;
        placed = zero-le;
        begun = zero-le;
        groups = zero-le;
        partly = λ e. absurd (true≢false (sym e));
        small = zero-le;
        same = refl;
        after = λ k l. refl;
        nexts = λ k l. refl;
        firsts = λ k l. refl;
        member = λ l. absurd (omega arith);
        rows = rw (from_none roots order 0 n n (le_refl n), sub-zero);
        numbers = λ counts has. rw (from_none roots order 0 n n (le_refl n), sub-zero);
      }

  module _ (place g t : ℕ) (o : Bool) (r h : ℕ) (w : List ℕ) (p : Placing place g t o r h w) where
    room_now : 4 * n ≤ length w
    room_now = omega (arith, p.room, p.same)

    -- the next member is placed
    module _ (in_order : place < n) (in_component : h < n) (b : Bool) (count : ℕ)
        (closing : closes limit t o count ≡ b) (fits : count < 2 ^ 32)
        (counted : (counts : List ℕ) → HasCounts f counts → get_or counts h 0 ≡ count) where
      abbrev g' : ℕ
      g' = cond b (g + 1) g

      abbrev t' : ℕ
      t' = cond b count (t + count)

      abbrev w' : List ℕ
      w' = set (set w place h) (2 * n + place) g'

      abbrev h' : ℕ
      h' = get_or w' (n + h) 0

      closes_open : b ≡ true → o ≡ true
      closes_open e = right_true (ltb limit (t + count)) o (closing ∙ e)

      g_small : g' ≤ place
      g_small = go b refl
        where
          go : (c : Bool) → b ≡ c → cond c (g + 1) g ≤ place
          go true e = omega (arith, p.partly (closes_open e))
          go false e = p.groups

      t_small : t' ≤ 2 ^ 32 * (place + 1)
      t_small = go b
        where
          go : (c : Bool) → cond c count (t + count) ≤ 2 ^ 32 * (place + 1)
          go true = omega arith
          go false = omega (arith, p.small)

      next_is : h' ≡ seek roots (pred r) n (behind h order)
      next_is =
          row_other n place h g' w room_now in_order (n + h) (omega arith) (omega arith)
          ∙ p.nexts h in_component
          ∙ p.linked.next h (p.once.all h in_component)
          ∙ ap (λ (k : ℕ). seek roots k n (behind h order)) (p.member in_component)

      from_is : members_from roots order (pred r) n h ≡ h ∷ members_from roots order (pred r) n h'
      from_is = from_member roots order (pred r) n h p.once in_component
          ∙ ap (λ (k : ℕ). h ∷ members_from roots order (pred r) n k) (sym next_is)

      pub placing_member : Placing (place + 1) g' t' true r h' w'
      placing_member =
          record {
            few = p.few;
            room = p.room;
            once = p.once;
            linked = p.linked;
            placed = omega arith;
            begun = p.begun;
            groups = omega (arith, g_small);
            partly = λ e. omega (arith, g_small);
            small = t_small;
            same = row_length n place h g' w room_now in_order ∙ p.same;
            after = λ k l. row_other n place h g' w room_now in_order k (omega arith) (omega arith)
                ∙ p.after k l;
            nexts =
                λ k l. row_other n place h g' w room_now in_order (n + k) (omega arith)
                (omega arith) ∙ p.nexts k l;
            firsts =
                λ k l. row_other n place h g' w room_now in_order (3 * n + k) (omega arith)
                (omega arith) ∙ p.firsts k l;
            member = λ l. ap (λ (k : ℕ). get_or roots k 0) next_is
                ∙ seek_root roots (pred r) n (behind h order)
                (subst (λ (k : ℕ). k < n) next_is l);
            rows =
                p.rows
                ∙ ap (λ (l : List ℕ). take place w ++ (l ++ order_from roots order (n - r) r))
                from_is
                ∙ sym (append_assoc (take place w) (h ∷ [])
                (members_from roots order (pred r) n h' ++ order_from roots order (n - r) r))
                ∙ ap (λ (l : List ℕ). l
                ++ (members_from roots order (pred r) n h' ++ order_from roots order (n - r) r))
                (sym (row_order n place h g' w room_now in_order));
            numbers = λ counts has. numbers_more counts has;
          }
        where
          numbers_more : (counts : List ℕ) → HasCounts f counts
              → numbers_from limit counts roots order 0 n 0
              ≡ take (place + 1) (drop (2 * n) w')
              ++ (numbers_of limit counts g' t' true (members_from roots order (pred r) n h')
              ++ numbers_from limit counts roots order
              (next_group limit counts g' t' true (members_from roots order (pred r) n h')) (n - r) r)
          numbers_more counts has =
              let c-is = counted counts has in
              let closes-is : closes limit t o (get_or counts h 0) ≡ b =
              ap (closes limit t o) c-is ∙ closing in
              p.numbers counts has
              ∙ rw (
                from_is,
                numbers_step limit counts g t o h (members_from roots order (pred r) n h') b
                    closes-is,
                next_step limit counts g t o h (members_from roots order (pred r) n h') b
                    closes-is,
                c-is,
                row_number n place h g' w room_now in_order,
              )
              (sym (append_assoc (take place (drop (2 * n) w)) (g' ∷ []) _))

    -- the next component begins
    module _ (no_more : n ≤ h) (more : r < n) where
      abbrev h₁ : ℕ
      h₁ = get_or w (3 * n + r) 0

      first_is : h₁ ≡ seek roots r n order
      first_is = p.firsts r more ∙ p.linked.first r more

      rooted_is : members_from roots order r n h₁ ≡ with_root_in roots r order
      rooted_is =
          ap (members_from roots order r n) first_is
          ∙ from_seek roots order r n order (tail_all n order p.once)

      one_less : n - r ≡ suc (n - (r + 1))
      one_less = omega arith

      from_next : members_from roots order (pred (r + 1)) n h₁ ≡ with_root_in roots r order
      from_next = ap (λ (k : ℕ). members_from roots order k n h₁) (pred_more r) ∙ rooted_is

      order_next : members_from roots order (pred r) n h ++ order_from roots order (n - r) r
          ≡ members_from roots order (pred (r + 1)) n h₁
          ++ order_from roots order (n - (r + 1)) (r + 1)
      unfolding order_from
      order_next = rw (from_none roots order (pred r) n h no_more, from_next, one_less, add-one r)

      next_closed : (counts : List ℕ)
          → next_group limit counts g t o (members_from roots order (pred r) n h) ≡ cond o (g + 1) g
      unfolding next_group
      next_closed counts = rw (from_none roots order (pred r) n h no_more, add-one g)

      numbers_next : (counts : List ℕ)
          → numbers_of limit counts g t o (members_from roots order (pred r) n h)
          ++ numbers_from limit counts roots order
          (next_group limit counts g t o (members_from roots order (pred r) n h)) (n - r) r
          ≡ numbers_of limit counts (cond o (g + 1) g) 0 false
          (members_from roots order (pred (r + 1)) n h₁)
          ++ numbers_from limit counts roots order
          (next_group limit counts (cond o (g + 1) g) 0 false
          (members_from roots order (pred (r + 1)) n h₁)) (n - (r + 1)) (r + 1)
      unfolding numbers_from numbers_of
      numbers_next counts =
          rw (
            next_closed counts,
            from_none roots order (pred r) n h no_more,
            from_next,
            one_less,
            add-one
                r,
          )

      pub placing_component : Placing place (cond o (g + 1) g) 0 false (r + 1) h₁ w
      placing_component =
          record {
            few = p.few;
            room = p.room;
            once = p.once;
            linked = p.linked;
            placed = p.placed;
            begun = omega arith;
            groups = closed o refl;
            partly = λ e. absurd (true≢false (sym e));
            small = zero-le;
            same = p.same;
            after = p.after;
            nexts = p.nexts;
            firsts = p.firsts;
            member = λ l. ap (λ (k : ℕ). get_or roots k 0) first_is
                ∙ seek_root roots r n order (subst (λ (k : ℕ). k < n) first_is l)
                ∙ sym (pred_more r);
            rows = p.rows ∙ ap (λ (l : List ℕ). take place w ++ l) order_next;
            numbers = λ counts has. p.numbers counts has
                ∙ ap (λ (l : List ℕ). take place (drop (2 * n) w) ++ l) (numbers_next counts);
          }
        where
          closed : (c : Bool) → o ≡ c → cond c (g + 1) g ≤ place
          closed true e = omega (arith, p.partly e)
          closed false e = p.groups

    -- the same for what the code computes
    module _ (in_order : place < n) (in_component : h < n) (count : ℕ) (fits : count < 2 ^ 32)
        (counted : (counts : List ℕ) → HasCounts f counts → get_or counts h 0 ≡ count) (part : Part)
        (taken : part
        ≡ cond (closes limit t o count) (record { group = g + 1; total = count })
        (record { group = g; total = t + count })) (w' : List ℕ)
        (put : w' ≡ set (set w place h) (2 * n + place) part.group) where
      group_is : (b : Bool)
          → (cond {A = Part} b (record { group = g + 1; total = count })
          (record { group = g; total = t + count })).group ≡ cond b (g + 1) g
      group_is true = refl
      group_is false = refl

      total_is : (b : Bool)
          → (cond {A = Part} b (record { group = g + 1; total = count })
          (record { group = g; total = t + count })).total ≡ cond b count (t + count)
      total_is true = refl
      total_is false = refl

      pub placing_next : Placing (place + 1) part.group part.total true r (get_or w' (n + h) 0)
          w'
      placing_next =
          let group_here = ap (λ (x : Part). x.group) taken ∙ group_is (closes limit t o count) in
          let total_here = ap (λ (x : Part). x.total) taken ∙ total_is (closes limit t o count) in
          rw (put, group_here, total_here)
          (placing_member in_order in_component (closes limit t o count) count refl fits
          counted)

    long_order : length (take place w) ≡ place
    long_order = length-take-le place w (omega (arith, p.placed, room_now))

    long_numbers : length (take place (drop (2 * n) w)) ≡ place
    long_numbers =
        length-take-le place (drop (2 * n) w)
        (simp length-drop (omega (arith, p.placed, room_now)))

    -- all blocks are placed
    pub placing_all : n ≤ place → Placed f n limit w₀ w
    placing_all full =
        let all : place ≡ n = omega (arith, p.placed) in
        record {
          same = p.same;
          after = p.after;
          order =
              λ long. subst (λ (k : ℕ). take k w ≡ order_from roots order n 0) all
              (whole (take place w) _ _ p.rows (long ∙ sym all ∙ sym long_order));
          numbers = λ long counts has.
              subst
              (λ (k : ℕ). take k (drop (2 * n) w) ≡ numbers_from limit counts roots order 0 n 0) all
              (whole (take place (drop (2 * n) w)) _ _ (p.numbers counts has)
              (length_all limit counts roots order 0 n 0 ∙ long ∙ sym all ∙ sym long_numbers));
        }

    -- no component is left, so all blocks are placed
    module _ (no_more : n ≤ h) (no-component : n ≤ r) where
      all_placed : length (order_from roots order n 0) ≡ n → n ≤ place
      unfolding order_from
      all_placed long =
          let none_left : n - r ≡ 0 = omega arith in
          let order_is : order_from roots order n 0 ≡ take place w ++ [] = p.rows
          ∙ ap (λ (l : List ℕ). take place w ++ l)
          (rw (from_none roots order (pred r) n h no_more, none_left)) in
          omega (arith, ap length (order_is ∙ append-nil (take place w)), long_order)

      pub placing_done : Placed f n limit w₀ w
      placing_done =
          record {
            same = p.same;
            after = p.after;
            order = λ long. (placing_all (all_placed long)).order long;
            numbers = λ long. (placing_all (all_placed long)).numbers long;
          }
