-- The first block in file order of which something holds, found in the order of keys.
-- Assumes nothing.
use Prim.Native.Nat.{ℕ, zero, suc, suc-le-suc, zero-le, ◌+◌, ◌≤◌, ◌<◌}
use mathlib.Core.Path.{◌≡◌, refl, sym, ap, ◌∙◌}
use mathlib.Core.Bool.{Bool, true, false, true≢false}
use mathlib.Core.List.Memᴰ
use mathlib.Core.List.{List, [], ◌∷◌, Memᴰ}
use mathlib.Core.Logic.{◌⊎◌, inl, inr, ⊎_elim}
use mathlib.Core.Option.{none, some}
use native.Mathlib.Nat.{le_refl, le_trans, not-suc-le-zero}
use native.Mathlib.Omega.{arith}
use native.Mathlib.Numerals.{add-one}
use native.Mathlib.Decide.{dec_lt, ℕ_discrete}
use borrow.Author.Tests.{eq-eqb, ne_eqb, lt-ltb, le-ltb}
use lib.ListN.{length, get_or, take, drop, drop_of_length-le}
use lib.Seq.{drop-cons, get_or-take, length-take-le}
use lib.Dec.{eqb}
use Rattle.base_lists.specs.Lists.{range, among, first_of}
use Rattle.base_lists.proofs.Order.{InOrder, order_at}
use Rattle.base_lists.proofs.Places.{place_of, member_at}
use Rattle.file_keys.specs.First.{rising, repeats, first_repeated, block_with}
use Rattle.file_keys.specs.Answers.{lesser, least_repeat, key_in_order, Between}
use Rattle.file_keys.proofs.Ordered.{Before, IsOrder}
use Rattle.file_keys.proofs.Rising.{rising_apart}

-- no number passes the test
pub first_none : (test : ℕ → Bool) (n i : ℕ) → ((j : ℕ) → i ≤ j → j < i + n → test j ≡ false)
    → first_of test (range n i) ≡ none
first_none test zero i h = refl
first_none test (suc n) i h = rw (h i (le_refl i) (omega arith))
    (first_none test n (suc i) (λ j l m. h j (omega arith) (omega arith)))

-- m passes it, and none before
pub first_some : (test : ℕ → Bool) (n i m : ℕ) → i ≤ m → m < i + n → test m ≡ true
    → ((j : ℕ) → j < m → test j ≡ false) → first_of test (range n i) ≡ some m
first_some test zero i m l h e before = absurd (omega arith)
first_some test (suc n) i m l h e before =
    elim (ℕ_discrete i m) [
      | yes same ↦ rw (same, e)
      | no g ↦ rw (before i (omega arith)) (first_some test n (suc i) m (omega arith)
          (omega arith) e before)
    ]

-- where none was found, none passes the test
pub none_first : (test : ℕ → Bool) (n i : ℕ) → first_of test (range n i) ≡ none → (j : ℕ) → i ≤ j
    → j < i + n → test j ≡ true → ⊥
none_first test zero i e j l h t = omega arith
none_first test (suc n) i e j l h t = go (test i) refl (λ rest m. none_first test n (suc i) rest j m
    (omega arith) t)
  where
    go : (b : Bool) → test i ≡ b → (first_of test (range n (suc i)) ≡ none → suc i ≤ j → ⊥) → ⊥
    go true g rest = let f : some i ≡ none = rw g at e in let z : ◌≡◌ {A = ℕ} 0 1 = cc in
        omega arith
    go false g rest =
        elim (ℕ_discrete i j) [
          | yes s ↦ true≢false (sym t ∙ ap test (sym s) ∙ g)
          | no d ↦ rest (rw g at e) (omega arith)
        ]

-- a number at a place of a list
record Place (x : ℕ) (xs : List ℕ) : Type 0 where
  place : ℕ
  inside : place < length xs
  is : get_or xs place 0 ≡ x

-- a key among some has a place there
among_place : (k : ℕ) (ks : List ℕ) → among k ks ≡ true → Place k ks
among_place k [] e = absurd (let z : ◌≡◌ {A = ℕ} 0 1 = cc in omega arith)
among_place k (j ∷ js) e =
    elim (ℕ_discrete k j) [
      | yes same ↦ record { place = 0; inside = omega arith; is = sym same }
      | no g ↦ let w = among_place k js (rw (ne_eqb _ _ g) at e) in
          record { place = suc w.place; inside = suc-le-suc w.inside; is = w.is }
    ]

among_yes : (k : ℕ) (ks : List ℕ) (p : ℕ) → p < length ks → get_or ks p 0 ≡ k → among k ks ≡ true
among_yes k [] p h e = absurd (omega arith)
among_yes k (j ∷ js) zero h e = rw (eq-eqb _ _ (sym e))
among_yes k (j ∷ js) (suc p) h e =
    elim (ℕ_discrete k j) [
      | yes same ↦ rw (eq-eqb _ _ same)
      | no g ↦ rw (ne_eqb _ _ g) (among_yes k js p (omega arith) e)
    ]

-- a test that is not true is false
not_yes : (b : Bool) → (b ≡ true → ⊥) → b ≡ false
not_yes true g = absurd (g refl)
not_yes false g = refl

module _ (keys : List ℕ) where
  abbrev key : ℕ → ℕ
  key i = get_or keys i 0

  -- an earlier block with the same key
  pub record Earlier (i : ℕ) : Type 0 where
    pub block : ℕ
    pub less : block < i
    pub same : key block ≡ key i

  repeats_earlier : (i : ℕ) → i < length keys → repeats keys i ≡ true → Earlier i
  repeats_earlier i h e =
      let w = among_place (key i) (take i keys) e in
      let less : w.place < i = omega (arith, w.inside, length-take-le i keys (omega arith)) in
      record {
        block = w.place;
        less = less;
        same = sym (get_or-take i keys w.place 0 less)
            ∙ w.is;
      }

  earlier_repeats : (i : ℕ) → i < length keys → Earlier i → repeats keys i ≡ true
  earlier_repeats i h w =
      among_yes (key i) (take i keys) w.block (omega (
        arith,
        w.less,
        length-take-le i keys
            (omega arith),
      ))
      (get_or-take i keys w.block 0 w.less ∙ w.same)

  pub none_repeated : ((i : ℕ) → i < length keys → Earlier i → ⊥) → first_repeated keys ≡ none
  none_repeated h = first_none (repeats keys) (length keys) 0
      (λ j l m. not_yes (repeats keys j) (λ e. h j (omega arith)
      (repeats_earlier j (omega arith) e)))

  -- rising keys: none is repeated
  pub rising_none : rising keys ≡ true → none ≡ first_repeated keys
  rising_none up = sym (none_repeated (λ i h w. absurd (omega
      (arith, rising_apart keys up w.block i w.less h, w.same))))

  -- where none is repeated, two blocks with the same key are the same
  pub keys_differ : first_repeated keys ≡ none → (i j : ℕ) → i < length keys → j < length keys
      → key i ≡ key j → i ≡ j
  keys_differ e i j hi hj same =
      elim (ℕ_discrete i j) [
        | yes g ↦ g
        | no g ↦
            elim (dec_lt i j) [
              | yes l ↦ absurd (none_first (repeats keys) (length keys) 0 e j zero-le (omega arith)
                  (earlier_repeats j hj (record { block = i; less = l; same = same })))
              | no m ↦ absurd (none_first (repeats keys) (length keys) 0 e i zero-le (omega arith)
                  (earlier_repeats i hi (record {
                    block = j;
                    less = omega arith;
                    same =
                        sym same;
                  })))
            ]
      ]

  pub some_repeated : (m : ℕ) → m < length keys → Earlier m → ((i : ℕ) → i < m → Earlier i → ⊥)
      → first_repeated keys ≡ some m
  some_repeated m h w before =
      first_some (repeats keys) (length keys) 0 m zero-le (omega arith) (earlier_repeats m h w)
      (λ j l. not_yes (repeats keys j) (λ e. before j l (repeats_earlier j (omega arith) e)))

  -- the least number so far, after one more
  abbrev step : ℕ → ℕ → ℕ → ℕ
  step best last i = lesser keys best last i

  step_low : (best last i : ℕ) → step best last i ≤ best
  step_low best last i =
      elim (ℕ_discrete (key last) (key i)) [
        | yes e ↦
            elim (dec_lt i best) [
              | yes l ↦ rw (eq-eqb _ _ e, lt-ltb _ _ l) (omega arith)
              | no g ↦ rw (eq-eqb _ _ e, le-ltb i best (omega arith)) (omega arith)
            ]
        | no g ↦ rw (ne_eqb _ _ g) (omega arith)
      ]

  step_here : (best last i : ℕ) → key last ≡ key i → step best last i ≤ i
  step_here best last i e =
      elim (dec_lt i best) [
        | yes l ↦ rw (eq-eqb _ _ e, lt-ltb _ _ l) (omega arith)
        | no g ↦ rw (eq-eqb _ _ e, le-ltb i best (omega arith)) (omega arith)
      ]

  -- what the least number is: none was found, or an earlier block has its key
  abbrev Told : ℕ → ℕ → Type 0
  Told n r = (r ≡ n) ⊎ Earlier r

  step_told : (n best last i : ℕ) → Before keys last i → Told n best → Told n (step best last i)
  step_told n best last i b t =
      elim (ℕ_discrete (key last) (key i)) [
        | yes e ↦
            elim (dec_lt i best) [
              | yes l ↦ rw (eq-eqb _ _ e, lt-ltb _ _ l) (inr
                  (record { block = last; less = b.first e; same = e }))
              | no g ↦ rw (eq-eqb _ _ e, le-ltb i best (omega arith)) t
            ]
        | no g ↦ rw (ne_eqb _ _ g) t
      ]

  least_low : (best last : ℕ) (is : List ℕ) → least_repeat keys best last is ≤ best
  unfolding least_repeat
  least_low best last [] = le_refl best
  least_low best last (i ∷ is) = le_trans (least_low (step best last i) i is) (step_low best last i)

  least_told : (n best last : ℕ) (is : List ℕ) → InOrder (Before keys) (last ∷ is) → Told n best
      → Told n (least_repeat keys best last is)
  unfolding least_repeat
  least_told n best last [] o t = t
  least_told n best last (i ∷ is) o t =
      least_told n (step best last i) i is o.1 (step_told n best last i
      (o.0 i (Memᴰ.head refl)) t)

  -- a number behind one with its key is not below the least
  least_behind : (best last : ℕ) (is : List ℕ) → InOrder (Before keys) (last ∷ is) → (i : ℕ)
      → Memᴰ i is → key last ≡ key i → least_repeat keys best last is ≤ i
  unfolding least_repeat
  least_behind best last [] o i m e = absurd (Memᴰ.not-nil m)
  least_behind best last (y ∷ ys) o i m e =
      ⊎_elim
      (λ (same : i ≡ y). let here = step_here best last y (e ∙ ap key same) in
      omega (arith, least_low (step best last y) y ys, here))
      (λ (r : Memᴰ i ys). least_behind (step best last y) y ys o.1 i r
      (let up = (o.0 y (Memᴰ.head refl)).low in let on = (o.1.0 i r).low in omega arith))
      (Memᴰ.cases_cons m)

  -- a number with an earlier one of its key: behind the first, or further on
  least_split : (best last : ℕ) (is : List ℕ) → InOrder (Before keys) (last ∷ is) → (j i : ℕ)
      → Memᴰ j (last ∷ is) → Memᴰ i (last ∷ is)
      → j < i → key j ≡ key i → (Memᴰ j is → Memᴰ i is
      → least_repeat keys best last is ≤ i) → least_repeat keys best last is ≤ i
  least_split best last is o j i mj mi l e deeper =
      ⊎_elim
      (λ (sj : j ≡ last).
      ⊎_elim (λ (si : i ≡ last). absurd (omega arith)) (λ (ri : Memᴰ i is).
      least_behind best last is o i ri (ap key (sym sj) ∙ e))
      (Memᴰ.cases_cons mi))
      (λ (rj : Memᴰ j is).
      ⊎_elim
      (λ (si : i ≡ last). absurd (let late = (o.0 j rj).first (ap key (sym si) ∙ sym e) in
      omega arith))
      (λ (ri : Memᴰ i is). deeper rj ri)
      (Memᴰ.cases_cons mi))
      (Memᴰ.cases_cons mj)

  least_all : (best last : ℕ) (is : List ℕ) → InOrder (Before keys) (last ∷ is) → (j i : ℕ)
      → Memᴰ j (last ∷ is) → Memᴰ i (last ∷ is)
      → j < i → key j ≡ key i → least_repeat keys best last is ≤ i
  unfolding least_repeat
  least_all best last [] o j i mj mi l e = least_split best last [] o j i mj mi l e
      (λ rj ri. absurd (Memᴰ.not-nil rj))
  least_all best last (y ∷ ys) o j i mj mi l e =
      least_split best last (y ∷ ys) o j i mj mi l e (λ rj ri. least_all (step best last y) y ys
      o.1 j i rj ri l e)

  -- the pass over the order of all blocks: its first block, and those after it
  abbrev pub scanned : List ℕ → ℕ
  scanned order = least_repeat keys (length keys) (get_or order 0 0) (drop 1 order)

  scanned_told : (order : List ℕ) → InOrder (Before keys) order → Told (length keys) (scanned order)
  unfolding least_repeat
  scanned_told [] o = inl refl
  scanned_told (x ∷ xs) o = least_told (length keys) (length keys) x xs o (inl refl)

  scanned_all : (order : List ℕ) → InOrder (Before keys) order → (j i : ℕ) → Memᴰ j order
      → Memᴰ i order → j < i → key j ≡ key i → scanned order ≤ i
  scanned_all [] o j i mj mi l e = absurd (Memᴰ.not-nil mj)
  scanned_all (x ∷ xs) o j i mj mi l e = least_all (length keys) x xs o j i mj mi l e

  module _ (order : List ℕ) (o : IsOrder keys order) where
    scanned_within : (i : ℕ) → i < length keys → Earlier i → scanned order ≤ i
    scanned_within i h w = scanned_all order o.ordered w.block i
        (o.has w.block (omega (arith, w.less))) (o.has i h) w.less w.same

    -- the pass found none: no key is repeated
    pub scan_none : scanned order ≡ length keys → none ≡ first_repeated keys
    scan_none e = sym (none_repeated (λ i h w. absurd (omega (arith, scanned_within i h w))))

    found : Earlier (scanned order) → (scanned order ≡ length keys → ⊥)
        → some (scanned order) ≡ first_repeated keys
    found w ne =
        let low : scanned order ≤ length keys = least_low (length keys) (get_or order 0 0)
        (drop 1 order) in
        sym (some_repeated (scanned order) (omega arith) w (λ i l v. absurd
        (omega (arith, scanned_within i (omega arith) v))))

    -- or it found the first repeated one
    pub scan_some : (scanned order ≡ length keys → ⊥) → some (scanned order) ≡ first_repeated keys
    scan_some ne = ⊎_elim (λ e. absurd (ne e)) (λ w. found w ne) (scanned_told order o.ordered)

  -- one more place of the order
  pub scan_more : (order : List ℕ) (best last p : ℕ) → p < length order
      → least_repeat keys best last (drop p order) ≡ least_repeat keys
      (step best last (get_or order p 0)) (get_or order p 0) (drop (p + 1) order)
  unfolding least_repeat
  scan_more order best last p h = rw (drop-cons order p 0 h, add-one p)

  pub scan_end : (order : List ℕ) (best last p : ℕ) → length order ≤ p
      → least_repeat keys best last (drop p order) ≡ best
  unfolding least_repeat
  scan_end order best last p h = ap (least_repeat keys best last) (drop_of_length-le order h)

  -- binary search: between two places of the order
  module _ (order : List ℕ) (o : IsOrder keys order) where
    pub between_all : (k n : ℕ) → n ≡ length order → Between keys order k 0 n
    between_all k n e =
        record {
          before = zero-le;
          inside = omega arith;
          below = λ p l. absurd (not-suc-le-zero l);
          above = λ p l h. absurd (omega arith);
        }

    -- along the order keys do not fall
    no_fall : (p q : ℕ) → p ≤ q → q < length order → key_in_order keys order p ≤ key_in_order keys order
        q
    no_fall p q l h =
        elim (ℕ_discrete p q) [
          | yes e ↦ rw e (le_refl _)
          | no g ↦ (order_at (Before keys) order o.ordered p q (omega arith) h).low
        ]

    module _ (k low high mid : ℕ) (w : Between keys order k low high) (l : low ≤ mid)
        (h : mid < high) where
      pub between_after : key_in_order keys order mid < k → Between keys order k (mid + 1) high
      between_after e =
          record {
            before = omega arith;
            inside = w.inside;
            below = λ p b. omega (arith, no_fall p mid (omega arith) (omega (arith, w.inside)));
            above = w.above;
          }

      pub between_before : k ≤ key_in_order keys order mid → Between keys order k low mid
      between_before e =
          record {
            before = l;
            inside = omega (arith, w.inside);
            below = w.below;
            above = λ p b c. omega (arith, no_fall mid p b c);
          }

    -- what is left by the key at one place
    pub between_right : (k n p : ℕ) → n ≡ length order → p < n → key_in_order keys order p < k
        → Between keys order k (p + 1) n
    between_right k n p e h l = between_after k 0 n p (between_all k n e) zero-le h l

    pub between_left : (k p : ℕ) → p < length order → k ≤ key_in_order keys order p
        → Between keys order k 0 p
    between_left k p h l =
        between_before k 0 (length order) p (between_all k (length order) refl) zero-le h l

    module _ (k r : ℕ) (w : Between keys order k r r) where
      place : (j : ℕ) → j < length keys → Place j order
      place j h =
          let w = place_of order 0 j (o.has j h) in
          record { place = w.0; inside = w.1; is = w.2 }

      has_not : ((j : ℕ) → j < length keys → key j ≡ k → ⊥) → none ≡ block_with k keys
      has_not g = sym (first_none (λ (i : ℕ). eqb (key i) k) (length keys) 0
          (λ j l m. ne_eqb _ _ (g j (omega arith))))

      -- every key is below
      pub search_past : length order ≤ r → none ≡ block_with k keys
      search_past h = has_not (λ j l e.
          let p = place j l in
          let at : key_in_order keys order p.place ≡ k = ap key p.is ∙ e in
          omega (arith, w.below p.place (omega (arith, p.inside))))

      module _ (h : r < length order) where
        -- the first key that is not below is another one
        pub search_other : (key_in_order keys order r ≡ k → ⊥) → none ≡ block_with k keys
        search_other ne = has_not (λ j l e.
            let p = place j l in
            let at : key_in_order keys order p.place ≡ k = ap key p.is ∙ e in
            let up : k ≤ key_in_order keys order r = w.above r (le_refl r) h in
            elim (dec_lt p.place r) [
              | yes b ↦ omega (arith, w.below p.place b)
              | no g ↦ ne (let same : key_in_order keys order r ≡ k =
                  omega (arith, no_fall r p.place (omega arith) p.inside) in same)
            ])

        -- no block before the one at place r has the key
        none_before : key_in_order keys order r ≡ k → (j : ℕ) → j < get_or order r 0 → j < length keys
            → key j ≡ k → ⊥
        none_before e j l few same =
            let p = place j few in
            let at : key_in_order keys order p.place ≡ k = ap key p.is ∙ same in
            elim (dec_lt p.place r) [
              | yes b ↦ omega (arith, w.below p.place b)
              | no g ↦
                  elim (ℕ_discrete p.place r) [
                    | yes here ↦ let is-here : get_or order r 0 ≡ j =
                        ap (λ (q : ℕ). get_or order q 0) (sym here) ∙ p.is in omega arith
                    | no other ↦
                        let b = order_at (Before keys) order o.ordered r p.place (omega arith)
                        p.inside in
                        omega (arith, b.first (e ∙ sym at), p.is)
                  ]
            ]

        -- it is the key
        pub search_there : key_in_order keys order r ≡ k → some (get_or order r 0) ≡ block_with k keys
        search_there e =
            let small = o.member (member_at order r 0 h) in
            sym (first_some (λ (i : ℕ). eqb (key i) k) (length keys) 0 (get_or order r 0) zero-le
            (omega arith) (eq-eqb _ _ e)
            (λ j l. ne_eqb _ _ (none_before e j l (omega arith))))
