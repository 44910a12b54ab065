-- Which functions the units have: those of the groups.
use Prim.Native.Nat.{ℕ, suc, ◌+◌}
use mathlib.Core.Path.{◌≡◌, refl, sym, subst}
use mathlib.Core.Logic.{◌⊎◌, inl, inr}
use mathlib.Core.Bool.{Bool, true, false, cond}
use mathlib.Core.List.Memᴰ
use mathlib.Core.List.{List, [], ◌∷◌, ◌++◌, map, flatten, Memᴰ}
use lib.Dec.{leb}
use lib.ListN.{length}
use Rattle.c_tree.specs.Stmt.{call, Code, end, ◌⨾◌, Head, helper, block, group, Top, opening}
use Rattle.c_tree.specs.Stmt.{function, blank, extern, table, count}
use Rattle.lower_forms.specs.Forms.{Body}
use Rattle.lower_units.specs.Block.{body_key, sp, block_code}
use Rattle.lower_units.specs.Units.{TranslationUnit, with_locals, emit_block, group_code, forwarders}
use Rattle.lower_units.specs.Units.{emit_group, unit_head, last_unit_end, text_of, cut}

-- the function of a block or of a group
abbrev pub Own : Top → Type 0
Own opening = ⊥
Own (function (helper h) c) = ⊥
Own (function (block k) c) = Unit {0}
Own (function (group k) c) = Unit {0}
Own blank = ⊥
Own (extern k) = ⊥
Own (table ks) = ⊥
Own (count n) = ⊥

-- a tree without one
abbrev pub Foreign : List Top → Type 0
Foreign ts = (t : Top) → Own t → Memᴰ t ts → ⊥

foreign_next : (t : Top) (ts : List Top) → (Own t → ⊥) → Foreign ts → Foreign (t ∷ ts)
foreign_next t ts f g s o (Memᴰ.head e) = f (subst Own e o)
foreign_next t ts f g s o (Memᴰ.tail m) = g s o m

pub head_foreign : Foreign unit_head
head_foreign =
    foreign_next _ _ (λ o. o)
    (foreign_next _ _ (λ o. o)
    (foreign_next _ _ (λ o. o)
    (foreign_next _ _ (λ o. o)
    (foreign_next _ _ (λ o. o)
    (foreign_next _ _ (λ o. o)
    (foreign_next _ _ (λ o. o) (λ t o m. absurd (Memᴰ.not-nil m))))))))

pub end_foreign : (bs : List Body) → Foreign (last_unit_end bs)
unfolding last_unit_end
end_foreign bs t o m = go (Memᴰ.append_cases (map (λ (b : Body). extern (body_key b)) bs) m)
  where
    go : Memᴰ t (map (λ (b : Body). extern (body_key b)) bs)
        ⊎ Memᴰ t (table (map body_key bs) ∷ count (length bs) ∷ []) → ⊥
    go (inl n) = let r = Memᴰ.of_map (λ (b : Body). extern (body_key b)) bs n in
        subst Own (sym r.2) o
    go (inr n) =
        foreign_next _ _ (λ x. x)
        (foreign_next _ _ (λ x. x) (λ s x k. absurd (Memᴰ.not-nil k))) t o n

-- all that stands in some units
abbrev pub trees : List TranslationUnit → List Top
trees us = flatten (map (λ (u : TranslationUnit). u.tree) us)

-- a function of the units stands in a group
abbrev pub InGroup : Top → List (List Body) → Type 0
InGroup t gs = (g : List Body) × Memᴰ g gs × Memᴰ t (emit_group g)

module _ (max : ℕ) (closed : List Top) (apart : Foreign closed) (t : Top) (own : Own t) where
  pub from_cut : (gs : List (List Body)) (ts : List Top) (n : ℕ)
      → Memᴰ t (trees (cut max closed ts n gs)) → Memᴰ t ts ⊎ InGroup t gs
  unfolding cut flatten
  from_cut [] ts n m = go (Memᴰ.append_cases (ts ++ closed) m)
    where
      front : Memᴰ t ts ⊎ Memᴰ t closed → Memᴰ t ts ⊎ InGroup t []
      front (inl k) = inl k
      front (inr k) = absurd (apart t own k)

      go : Memᴰ t (ts ++ closed) ⊎ Memᴰ t [] → Memᴰ t ts ⊎ InGroup t []
      go (inl k) = front (Memᴰ.append_cases ts k)
      go (inr k) = absurd (Memᴰ.not-nil k)
  from_cut (g ∷ gs) ts n m =
      pick (cut max closed unit_head (n + length g) gs)
      (cut max closed (ts ++ emit_group g) (n + length g) gs)
      (leb max (length (text_of (ts ++ emit_group g))))
      (from_cut gs unit_head (n + length g)) (from_cut gs (ts ++ emit_group g) (n + length g)) m
    where
      front : Memᴰ t ts ⊎ Memᴰ t (emit_group g) → Memᴰ t ts ⊎ InGroup t (g ∷ gs)
      front (inl k) = inl k
      front (inr k) = inr (g, Memᴰ.head refl, k)

      later : InGroup t gs → InGroup t (g ∷ gs)
      later h = (h.0, Memᴰ.tail h.1, h.2)

      next : Memᴰ t (ts ++ emit_group g) ⊎ InGroup t gs → Memᴰ t ts ⊎ InGroup t (g ∷ gs)
      next (inl k) = front (Memᴰ.append_cases ts k)
      next (inr h) = inr (later h)

      fresh : Memᴰ t unit_head ⊎ InGroup t gs → Memᴰ t ts ⊎ InGroup t (g ∷ gs)
      fresh (inl k) = absurd (head_foreign t own k)
      fresh (inr h) = inr (later h)

      handed : (us : List TranslationUnit)
          → (Memᴰ t (trees us) → Memᴰ t unit_head ⊎ InGroup t gs)
          → Memᴰ t (ts ++ emit_group g) ⊎ Memᴰ t (trees us)
          → Memᴰ t ts ⊎ InGroup t (g ∷ gs)
      handed us f (inl k) = front (Memᴰ.append_cases ts k)
      handed us f (inr k) = fresh (f k)

      pick : (us vs : List TranslationUnit) (x : Bool)
          → (Memᴰ t (trees us) → Memᴰ t unit_head ⊎ InGroup t gs)
          → (Memᴰ t (trees vs) → Memᴰ t (ts ++ emit_group g) ⊎ InGroup t gs)
          → Memᴰ t
          (trees (cond x
          (record { tree = ts ++ emit_group g; done = n + length g; last = false } ∷ us) vs))
          → Memᴰ t ts ⊎ InGroup t (g ∷ gs)
      pick us vs true f h k = handed us f (Memᴰ.append_cases (ts ++ emit_group g) k)
      pick us vs false f h k = next (h k)

-- a group with more than one member
abbrev pub Many : List Body → Type 0
Many [] = ⊥
Many (b ∷ []) = ⊥
Many (b ∷ c ∷ g) = Unit {0}

-- the body of a forwarder
abbrev pub forwarder : ℕ → ℕ → Code
forwarder k n = sp 1 ⨾ call k n ⨾ sp 1 ⨾ end

-- the body of a function, and its key
abbrev code_of : Top → Code
code_of opening = end
code_of (function h c) = c
code_of blank = end
code_of (extern k) = end
code_of (table ks) = end
code_of (count n) = end

abbrev head_key : Head → ℕ
head_key (helper h) = 0
head_key (block k) = k
head_key (group k) = k

abbrev key_of : Top → ℕ
key_of opening = 0
key_of (function h c) = head_key h
key_of blank = 0
key_of (extern k) = k
key_of (table ks) = 0
key_of (count n) = 0

-- whether it is a group's
abbrev pub OfGroup : Top → Type 0
OfGroup opening = ⊥
OfGroup (function (helper h) c) = ⊥
OfGroup (function (block k) c) = ⊥
OfGroup (function (group k) c) = Unit {0}
OfGroup blank = ⊥
OfGroup (extern k) = ⊥
OfGroup (table ks) = ⊥
OfGroup (count n) = ⊥

forwards : (a k : ℕ) (c : Code) (bs : List Body) (n : ℕ)
    → Memᴰ (function (block k) c) (forwarders a n bs)
    → (b : Body) × Memᴰ b bs × (body_key b ≡ k) × ((j : ℕ) × (c ≡ forwarder a j))
unfolding forwarders
forwards a k c [] n (Memᴰ.head e) = absurd (subst Own e tt)
forwards a k c [] n (Memᴰ.tail m) = absurd (Memᴰ.not-nil m)
forwards a k c (b ∷ bs) n (Memᴰ.head e) =
    (b, Memᴰ.head refl, (λ i. key_of (sym e i)), (n, (λ i. code_of (e i))))
forwards a k c (b ∷ bs) n (Memᴰ.tail m) =
    let r = forwards a k c bs (suc n) m in (r.0, Memᴰ.tail r.1, r.2, r.3)

-- the function of a lone block
abbrev pub Alone : ℕ → Code → List Body → Type 0
Alone k c g = (b : Body) × (g ≡ b ∷ []) × (body_key b ≡ k) × (c ≡ with_locals (block_code [] b))

-- the function of a block of a group of several
abbrev pub Among : ℕ → Code → List Body → Type 0
Among k c g =
    Many g × ((b : Body) × Memᴰ b g × (body_key b ≡ k)) × ((a n : ℕ) × (c ≡ forwarder a n))

pub block_stands : (k : ℕ) (c : Code) (g : List Body)
    → Memᴰ (function (block k) c) (emit_group g) → Alone k c g ⊎ Among k c g
unfolding emit_group emit_block
block_stands k c [] m = absurd (Memᴰ.not-nil m)
block_stands k c (b ∷ []) (Memᴰ.head e) =
    inl (b, refl, (λ i. key_of (sym e i)), (λ i. code_of (e i)))
block_stands k c (b ∷ []) (Memᴰ.tail (Memᴰ.head e)) = absurd (subst Own e tt)
block_stands k c (b ∷ []) (Memᴰ.tail (Memᴰ.tail m)) = absurd (Memᴰ.not-nil m)
block_stands k c (a ∷ d ∷ g) (Memᴰ.head e) = absurd (subst OfGroup (sym e) tt)
block_stands k c (a ∷ d ∷ g) (Memᴰ.tail (Memᴰ.head e)) = absurd (subst Own e tt)
block_stands k c (a ∷ d ∷ g) (Memᴰ.tail (Memᴰ.tail m)) =
    let r = forwards (body_key a) k c (a ∷ d ∷ g) 0 m in
    inr (tt, (r.0, r.1, r.2), (body_key a, r.3.0, r.3.1))

pub no_group : (a n : ℕ) (bs : List Body) (t : Top) → OfGroup t → Memᴰ t (forwarders a n bs)
    → ⊥
unfolding forwarders
no_group a n [] t h (Memᴰ.head e) = subst OfGroup e h
no_group a n [] t h (Memᴰ.tail m) = Memᴰ.not-nil m
no_group a n (b ∷ bs) t h (Memᴰ.head e) = subst OfGroup e h
no_group a n (b ∷ bs) t h (Memᴰ.tail m) = no_group a (suc n) bs t h m

pub group_stands : (k : ℕ) (c : Code) (g : List Body)
    → Memᴰ (function (group k) c) (emit_group g) → Many g × (c ≡ group_code g)
unfolding emit_group emit_block
group_stands k c [] m = absurd (Memᴰ.not-nil m)
group_stands k c (b ∷ []) (Memᴰ.head e) = absurd (subst OfGroup e tt)
group_stands k c (b ∷ []) (Memᴰ.tail (Memᴰ.head e)) = absurd (subst OfGroup e tt)
group_stands k c (b ∷ []) (Memᴰ.tail (Memᴰ.tail m)) = absurd (Memᴰ.not-nil m)
group_stands k c (a ∷ d ∷ g) (Memᴰ.head e) = (tt, (λ i. code_of (e i)))
group_stands k c (a ∷ d ∷ g) (Memᴰ.tail (Memᴰ.head e)) = absurd (subst OfGroup e tt)
group_stands k c (a ∷ d ∷ g) (Memᴰ.tail (Memᴰ.tail m)) =
    absurd (no_group (body_key a) 0 (a ∷ d ∷ g) _ tt m)
