-- Which function a forwarder calls, and with which number.
use Prim.Native.Nat.{ℕ, suc, ◌+◌}
use mathlib.Core.Path.{◌≡◌, refl, sym, ap, ◌∙◌, subst}
use mathlib.Core.Logic.{◌⊎◌, inl, inr}
use mathlib.Core.List.Memᴰ
use mathlib.Core.List.{List, [], ◌∷◌, map, Memᴰ}
use mathlib.Core.Option.{some}
use native.Mathlib.Omega.{arith}
use lib.ListN.{get_elem?}
use Rattle.c_tree.specs.Stmt.{Code, end, Head, helper, block, group, Top, opening, function, blank}
use Rattle.c_tree.specs.Stmt.{extern, table, count}
use Rattle.lower_forms.specs.Forms.{Body}
use Rattle.lower_units.specs.Block.{body_key}
use Rattle.lower_units.specs.Units.{group_code, forwarders, emit_group}
use Rattle.claim_ways.proofs.Functions.{Own, Alone, Among, forwarder, group_stands, block_stands}
use Rattle.claim_ways.proofs.Functions.{OfGroup, no_group}

-- the key and the body of a function
abbrev head_key : Head → ℕ
head_key (helper h) = 0
head_key (block k) = k
head_key (group k) = k

abbrev key_of : Top → ℕ
key_of opening = 0
key_of (function h c) = head_key h
key_of blank = 0
key_of (extern k) = k
key_of (table ks) = 0
key_of (count n) = 0

abbrev code_of : Top → Code
code_of opening = end
code_of (function h c) = c
code_of blank = end
code_of (extern k) = end
code_of (table ks) = end
code_of (count n) = end

-- a forwarder hands over the number of its block's key
forwards : (a k : ℕ) (c : Code) (bs : List Body) (n : ℕ)
    → Memᴰ (function (block k) c) (forwarders a n bs)
    → (j : ℕ) × (c ≡ forwarder a (n + j)) × (get_elem? (map body_key bs) j ≡ some k)
unfolding forwarders
forwards a k c [] n (Memᴰ.head e) = absurd (subst Own e tt)
forwards a k c [] n (Memᴰ.tail m) = absurd (Memᴰ.not-nil m)
forwards a k c (b ∷ bs) n (Memᴰ.head e) =
    let same : n ≡ n + 0 = omega arith in
    (0, ap code_of e ∙ ap (forwarder a) same, ap (λ (l : ℕ). some l) (sym (ap key_of e)))
forwards a k c (b ∷ bs) n (Memᴰ.tail m) =
    let r = forwards a k c bs (suc n) m in
    let same : suc n + r.0 ≡ n + suc r.0 = omega arith in
    (suc r.0, r.1 ∙ ap (forwarder a) same, r.2)

-- the function of a block of a group of several, whose first block is a: it hands the number of the
-- block's key to the function of the group
abbrev pub Forwards : ℕ → Code → List Body → Type 0
Forwards k c g = (a : Body) × Memᴰ a g
    × Memᴰ (function (group (body_key a)) (group_code g)) (emit_group g)
    × ((n : ℕ) × (c ≡ forwarder (body_key a) n) × (get_elem? (map body_key g) n ≡ some k))

pub block_function : (k : ℕ) (c : Code) (g : List Body)
    → Memᴰ (function (block k) c) (emit_group g) → Alone k c g ⊎ Forwards k c g
unfolding emit_group
block_function k c [] m = absurd (Memᴰ.not-nil m)
block_function k c (b ∷ []) m = go (block_stands k c (b ∷ []) m)
  where
    go : Alone k c (b ∷ []) ⊎ Among k c (b ∷ []) → Alone k c (b ∷ []) ⊎ Forwards k c (b ∷ [])
    go (inl h) = inl h
    go (inr h) = absurd h.0
block_function k c (a ∷ d ∷ g) (Memᴰ.head e) = absurd (subst OfGroup (sym e) tt)
block_function k c (a ∷ d ∷ g) (Memᴰ.tail (Memᴰ.head e)) = absurd (subst Own e tt)
block_function k c (a ∷ d ∷ g) (Memᴰ.tail (Memᴰ.tail m)) =
    let r = forwards (body_key a) k c (a ∷ d ∷ g) 0 m in
    let same : 0 + r.0 ≡ r.0 = omega arith in
    inr (
      a,
      Memᴰ.head refl,
      Memᴰ.head refl,
      (r.0, r.1 ∙ ap (forwarder (body_key a)) same, r.2),
    )

-- the function of a group has the key of its first block
pub group_function : (k : ℕ) (c : Code) (g : List Body)
    → Memᴰ (function (group k) c) (emit_group g)
    → (a : Body) × Memᴰ a g × (body_key a ≡ k) × (c ≡ group_code g)
unfolding emit_group
group_function k c [] m = absurd (Memᴰ.not-nil m)
group_function k c (b ∷ []) m = absurd (group_stands k c (b ∷ []) m).0
group_function k c (a ∷ d ∷ g) (Memᴰ.head e) =
    (a, Memᴰ.head refl, sym (ap key_of e), ap code_of e)
group_function k c (a ∷ d ∷ g) (Memᴰ.tail (Memᴰ.head e)) = absurd (subst OfGroup e tt)
group_function k c (a ∷ d ∷ g) (Memᴰ.tail (Memᴰ.tail m)) =
    absurd (no_group (body_key a) 0 (a ∷ d ∷ g) _ tt m)
