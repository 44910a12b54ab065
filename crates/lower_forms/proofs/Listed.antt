-- Register lists: their members, and loads into a base that is listed.
use mathlib.Core.Path.{◌≡◌, refl, sym, ap, ap₂, ◌∙◌, subst}
use mathlib.Core.Logic.{◌≢◌}
use mathlib.Core.Bool.{Bool, true, false, cond, ◌||◌}
use mathlib.Core.List.{List, [], ◌∷◌, ◌++◌, append-nil}
use Prim.Native.Nat.{ℕ, zero, suc, ◌+◌, ◌%◌, ◌≤◌, ◌<◌}
use lib.ListN.{length, length-append}
use native.Mathlib.Omega.{arith}
use lib.Dec.{T, eqb, eqb→eq, eqb_refl}
use Rattle.base_words.specs.Word.{bit}
use Rattle.base_words.proofs.Bits.{is_true}
use Rattle.lower_forms.specs.InlineBody.{list_if}
use Rattle.lower_forms.specs.InlineBody as F
use Rattle.armv4t_manual.specs.Machine.{update}
use Rattle.armv4t_manual.specs.Transfer.{Memory4}
use Rattle.armv4t_manual.specs.Multiple.{listed, load_all}
use Rattle.lower_forms.proofs.Operands.{same_of, ne_of}
use Rattle.base_lists.proofs.Each.{Each, each_append, each_map}

-- the emitter's list is the manual's
list_if_same : (b : Bool) (n : ℕ) → list_if b n ≡ cond b (n ∷ []) []
list_if_same true n = refl
list_if_same false n = refl

pub listed_same : (rlist n : ℕ) → F.listed rlist n ≡ listed rlist n
unfolding F.listed listed
listed_same rlist zero = refl
listed_same rlist (suc n) =
    ap₂ (λ (p q : List ℕ). p ++ q) (listed_same rlist n) (list_if_same (bit rlist n) n)

-- a list of registers below n has at most n
pub listed_length : (rlist n : ℕ) → length (listed rlist n) ≤ n
unfolding listed
listed_length rlist zero = omega arith
listed_length rlist (suc n) = go (bit rlist n) (listed_length rlist n)
  where
    go : (b : Bool) → length (listed rlist n) ≤ n
        → length (listed rlist n ++ cond b (n ∷ []) []) ≤ suc n
    go true h = omega (arith, length-append (listed rlist n) (n ∷ []))
    go false h = omega (arith, length-append (listed rlist n) [])

-- without R15 the list of 16 is that of 15
pub listed_15 : (rlist : ℕ) → bit rlist 15 ≡ false → listed rlist 16 ≡ listed rlist 15
unfolding listed
listed_15 rlist q =
    ap (λ (b : Bool). listed rlist 15 ++ cond b (15 ∷ []) []) q ∙ append-nil (listed rlist 15)

-- members are below n and named
abbrev pub Named : ℕ → ℕ → ℕ → Type 0
Named rlist n i = (i < n) × (bit rlist i ≡ true)

pub listed_named : (rlist n : ℕ) → Each (Named rlist n) (listed rlist n)
unfolding listed
listed_named rlist zero = tt
listed_named rlist (suc n) =
    each_append (Named rlist (suc n)) (listed rlist n) _
    (each_map (Named rlist n) (Named rlist (suc n)) (λ i h. (omega (arith, h.0), h.1))
    (listed rlist n) (listed_named rlist n)) (go (bit rlist n) refl)
  where
    go : (b : Bool) → bit rlist n ≡ b → Each (Named rlist (suc n)) (cond b (n ∷ []) [])
    go true q = ((omega arith, q), tt)
    go false q = tt

-- whether a list has a register
abbrev pub member : ℕ → List ℕ → Bool
member k [] = false
member k (i ∷ is) = eqb i k || member k is

member_left : (k : ℕ) (is js : List ℕ) → member k is ≡ true → member k (is ++ js) ≡ true
member_left k [] js h = absurd (subst T (sym h) tt)
member_left k (i ∷ is) js h = go (eqb i k) h (member_left k is js)
  where
    go : (b : Bool) → (b || member k is) ≡ true → (member k is ≡ true → member k (is ++ js) ≡ true)
        → (b || member k (is ++ js)) ≡ true
    go true h rec = refl
    go false h rec = rec h

member_right : (k : ℕ) (is js : List ℕ) → member k js ≡ true → member k (is ++ js) ≡ true
member_right k [] js h = h
member_right k (i ∷ is) js h = go (eqb i k) (member_right k is js h)
  where
    go : (b : Bool) → member k (is ++ js) ≡ true → (b || member k (is ++ js)) ≡ true
    go true rec = refl
    go false rec = rec

-- what is named below n is a member
pub named_member : (rlist n k : ℕ) → k < n → bit rlist k ≡ true → member k (listed rlist n) ≡ true
unfolding listed
named_member rlist zero k h q = absurd (none k h)
  where
    none : (k : ℕ) → k < 0 → ⊥
    none k h = omega arith
named_member rlist (suc n) k h q = go (eqb k n) refl (λ l. named_member rlist n k l q)
  where
    below : (k n : ℕ) → k < suc n → k ≢ n → k < n
    below k n h e = omega arith

    here : k ≡ n → member k (cond (bit rlist n) (n ∷ []) []) ≡ true
    here e =
        subst (λ (j : ℕ). member k (cond (bit rlist j) (j ∷ []) []) ≡ true) e
        (rw (q, is_true (eqb k k) (eqb_refl k)))

    go : (b : Bool) → eqb k n ≡ b → (k < n → member k (listed rlist n) ≡ true)
        → member k (listed rlist n ++ cond (bit rlist n) (n ∷ []) []) ≡ true
    go true e rec = member_right k (listed rlist n) _ (here (same_of k n e))
    go false e rec = member_left k (listed rlist n) _ (rec (below k n h (ne_of k n e)))

-- loads depend on the registers before them only where a register is not loaded
load_same : (is : List ℕ) (a : ℕ) (f : ℕ → ℕ) (r q : ℕ → ℕ) → ((j : ℕ) → r j ≡ q j) → (j : ℕ)
    → load_all is a f r j ≡ load_all is a f q j
load_same [] a f r q h j = h j
load_same (i ∷ is) a f r q h j =
    load_same is ((a + 4) % 4294967296) f (update i (Memory4 f a) r) (update i (Memory4 f a) q)
    (λ j. ap (cond (eqb j i) (Memory4 f a)) (h j)) j

pub load_over : (k : ℕ) (is : List ℕ) (a : ℕ) (f : ℕ → ℕ) (r q : ℕ → ℕ) → member k is ≡ true
    → ((j : ℕ) → eqb j k ≡ false → r j ≡ q j) → (j : ℕ) → load_all is a f r j ≡ load_all is a f q j
load_over k [] a f r q m h j = absurd (subst T (sym m) tt)
load_over k (i ∷ is) a f r q m h j =
    go (eqb i k) refl m
    (λ m. load_over k is ((a + 4) % 4294967296) f (update i (Memory4 f a) r)
    (update i (Memory4 f a) q) m (λ j e. ap (cond (eqb j i) (Memory4 f a)) (h j e)) j)
  where
    x : ℕ
    x = Memory4 f a

    all : T (eqb i k) → (j : ℕ) → update i x r j ≡ update i x q j
    all t j = each (eqb j i) refl
      where
        each : (b : Bool) → eqb j i ≡ b → cond b x (r j) ≡ cond b x (q j)
        each true e = refl
        each false e = h j (subst (λ (l : ℕ). eqb j l ≡ false) (eqb→eq i k t) e)

    Same : Type 0
    Same = load_all is ((a + 4) % 4294967296) f (update i x r) j
        ≡ load_all is ((a + 4) % 4294967296) f (update i x q) j

    go : (b : Bool) → eqb i k ≡ b → (b || member k is) ≡ true → (member k is ≡ true → Same) → Same
    go true e m rec =
        load_same is ((a + 4) % 4294967296) f (update i x r) (update i x q)
        (all (subst T (sym e) tt)) j
    go false e m rec = rec m
