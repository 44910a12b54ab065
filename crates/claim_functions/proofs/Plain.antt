-- Labels stand once, and inside no braces.
use Prim.Native.Nat.{ℕ, ◌≤◌}
use mathlib.Core.Path.{◌≡◌, refl, sym, ◌∙◌, subst}
use mathlib.Core.Logic.{◌⊎◌, inl, inr}
use mathlib.Core.List.Memᴰ
use mathlib.Core.List.{List, [], ◌∷◌, ◌++◌, map, flatten, Memᴰ}
use native.Mathlib.Omega.{arith}
use Rattle.base_lists.specs.Lists.{count}
use Rattle.base_lists.proofs.Counts.{count_append, count_here, count_tail}
use Rattle.c_tree.specs.Stmt.{Simple, label, switch, Code, end, ◌⨾◌, when, braces, ◌⧺◌}
use Rattle.lower_forms.specs.Forms.{Body}
use Rattle.lower_units.specs.Block.{body_key, nl, sp, block_code}
use Rattle.lower_units.specs.Units.{with_locals, labelled, group_code}
use Rattle.claim_ways.specs.Ways.{LabelAt, here, later, in_when, past_when, in_braces, past_braces}
use Rattle.claim_ways.proofs.Bare.{NoLabel, Bare, bare_block}
use Rattle.claim_functions.specs.Execution.{LabelIn, l_here, l_later}
use Rattle.claim_ways.proofs.Functions.{forwarder}
use Rattle.claim_functions.proofs.Labels.{Some, some_in, at_simple, past_simple, past_bare}
use Rattle.claim_functions.proofs.Labels.{past_locals, after_code_lem, in_labelled}

-- a place is in code that has a statement
has_place : {k : ℕ} {c d : Code} → LabelAt k c d → Some c
has_place here = tt
has_place (later p) = tt
has_place (in_when p) = tt
has_place (past_when p) = tt
has_place (in_braces p) = tt
has_place (past_braces p) = tt

-- a statement, or what stands after it
at_place : {k : ℕ} {s : Simple} {c d : Code} → LabelAt k (s ⨾ c) d
    → ((label k ≡ s) × (c ≡ d)) ⊎ LabelAt k c d
at_place here = inl (refl, refl)
at_place (later p) = inr p

past_place : {k : ℕ} {s : Simple} {c d : Code} → NoLabel s → LabelAt k (s ⨾ c) d → LabelAt k c d
past_place {k} {s} {c} {d} h p = go (at_place p)
  where
    go : ((label k ≡ s) × (c ≡ d)) ⊎ LabelAt k c d → LabelAt k c d
    go (inl e) = absurd (subst NoLabel (sym e.0) h)
    go (inr q) = q

-- code without labels has no place with one
bare_none : {k : ℕ} (c : Code) {d : Code} → Bare c → LabelAt k c d → ⊥
bare_none end h p = has_place p
bare_none (s ⨾ c) h p = bare_none c h.1 (past_place h.0 p)
bare_none (when o n t b c) h (in_when p) = bare_none b h.0 p
bare_none (when o n t b c) h (past_when p) = bare_none c h.1 p
bare_none (braces b c) h (in_braces p) = bare_none b h.0 p
bare_none (braces b c) h (past_braces p) = bare_none c h.1 p

bare_past : {k : ℕ} (c : Code) {d e : Code} → Bare c → LabelAt k (c ⧺ d) e → LabelAt k d e
bare_past end h p = p
bare_past (s ⨾ c) h p = bare_past c h.1 (past_place h.0 p)
bare_past (when o n t b c) h (in_when p) = absurd (bare_none b h.0 p)
bare_past (when o n t b c) h (past_when p) = bare_past c h.1 p
bare_past (braces b c) h (in_braces p) = absurd (bare_none b h.0 p)
bare_past (braces b c) h (past_braces p) = bare_past c h.1 p

-- the places among labelled texts are inside no braces
plain_labelled : {k : ℕ} (ks : List ℕ) (bs : List Body) {d : Code} → LabelAt k (labelled ks bs) d
    → LabelIn k (labelled ks bs) d
unfolding labelled
plain_labelled ks [] p = absurd (has_place p)
plain_labelled {k} ks (b ∷ bs) {d} p = go (λ q. plain_labelled ks bs q) (at_place p)
  where
    rest : Code
    rest = nl ⨾ (block_code ks b ⧺ (nl ⨾ labelled ks bs))

    go : (LabelAt k (labelled ks bs) d → LabelIn k (labelled ks bs) d)
        → ((label k ≡ label (body_key b)) × (rest ≡ d)) ⊎ LabelAt k rest d
        → LabelIn k (label (body_key b) ⨾ rest) d
    go f (inl e) =
        subst (λ s. LabelIn k (s ⨾ rest) d) e.0
        (subst (λ x. LabelIn k (label k ⨾ rest) x) e.1 l_here)
    go f (inr q) =
        l_later (l_later
        (after_code_lem (block_code ks b)
        (l_later
        (f (past_place tt (bare_past (block_code ks b) (bare_block ks b) (past_place tt q)))))))

pub plain_group : {k : ℕ} (bs : List Body) {d : Code} → LabelAt k (group_code bs) d
    → LabelIn k (group_code bs) d
unfolding group_code with_locals
plain_group bs p =
    l_later
    (l_later
    (l_later
    (l_later
    (l_later
    (l_later
    (l_later
    (l_later
    (l_later
    (l_later
    (plain_labelled (map body_key bs) bs
    (past_place tt
    (past_place tt
    (past_place tt
    (past_place tt
    (past_place tt
    (past_place tt
    (past_place tt (past_place tt (past_place tt (past_place tt p))))))))))))))))))))

-- in the function of a lone block, and in a forwarder, there is none
pub none_lone : {k : ℕ} (b : Body) {d : Code} → LabelAt k (with_locals (block_code [] b)) d → ⊥
unfolding with_locals
none_lone b p =
    bare_none (block_code [] b) (bare_block [] b)
    (past_place tt
    (past_place tt
    (past_place tt (past_place tt (past_place tt (past_place tt (past_place tt p)))))))

pub none_forwarder : {k : ℕ} (a n : ℕ) {d : Code} → LabelAt k (forwarder a n) d → ⊥
none_forwarder a n p = bare_none (forwarder a n) (tt, (tt, (tt, tt))) p

-- no number twice
abbrev pub Distinct : List ℕ → Type 0
Distinct [] = Unit {0}
Distinct (k ∷ ks) = (Memᴰ k ks → ⊥) × Distinct ks

-- a label stands once
once_labelled : {k : ℕ} (ks : List ℕ) (bs : List Body) → Distinct (map body_key bs) → {d e : Code}
    → LabelIn k (labelled ks bs) d → LabelIn k (labelled ks bs) e → e ≡ d
unfolding labelled
once_labelled ks [] h p q = absurd (some_in p)
once_labelled {k} ks (b ∷ bs) h {d} {e} p q =
    go (λ u v. once_labelled ks bs h.1 u v) (at_simple p) (at_simple q)
  where
    rest : Code
    rest = nl ⨾ (block_code ks b ⧺ (nl ⨾ labelled ks bs))

    inner : {x : Code} → LabelIn k rest x → LabelIn k (labelled ks bs) x
    inner r = past_simple tt (past_bare (block_code ks b) (bare_block ks b) (past_simple tt r))

    twice : {x : Code} → label k ≡ label (body_key b) → LabelIn k rest x → ⊥
    twice l r =
        let c = in_labelled ks bs (inner r) in
        let same : body_key b ≡ k = cc in
        h.0 (Memᴰ.cast (same ∙ sym c.2) (Memᴰ.map body_key c.1))

    go : (LabelIn k (labelled ks bs) d → LabelIn k (labelled ks bs) e → e ≡ d)
        → ((label k ≡ label (body_key b)) × (rest ≡ d)) ⊎ LabelIn k rest d
        → ((label k ≡ label (body_key b)) × (rest ≡ e)) ⊎ LabelIn k rest e → e ≡ d
    go f (inl u) (inl v) = sym v.1 ∙ u.1
    go f (inl u) (inr v) = absurd (twice u.0 v)
    go f (inr u) (inl v) = absurd (twice v.0 u)
    go f (inr u) (inr v) = f (inner u) (inner v)

pub once_group : {k : ℕ} (bs : List Body) → Distinct (map body_key bs) → {d e : Code}
    → LabelIn k (group_code bs) d → LabelIn k (group_code bs) e → e ≡ d
unfolding group_code
once_group {k} bs h {d} {e} p q = once_labelled (map body_key bs) bs h (inner p) (inner q)
  where
    inner : {x : Code}
        → LabelIn k
        (with_locals (sp 4 ⨾ switch (map body_key bs) ⨾ nl ⨾ labelled (map body_key bs) bs)) x
        → LabelIn k (labelled (map body_key bs) bs) x
    inner r =
        past_simple tt
        (past_simple tt
        (past_simple tt
        (past_locals (sp 4 ⨾ switch (map body_key bs) ⨾ nl ⨾ labelled (map body_key bs) bs) r)))

-- numbers that are counted once are distinct
in_count : (i : ℕ) (g : List ℕ) → Memᴰ i g → 1 ≤ count i g
in_count i [] m = elim m [ ]
in_count i (j ∷ g) (Memᴰ.head e) =
    subst (λ k. 1 ≤ count i (k ∷ g)) e (omega (arith, count_here i g))
in_count i (j ∷ g) (Memᴰ.tail m) = omega (arith, in_count i g m, count_tail i j g)

distinct_of : (g : List ℕ) → ((i : ℕ) → Memᴰ i g → count i g ≤ 1) → Distinct g
distinct_of [] h = tt
distinct_of (i ∷ g) h = (
  λ m. absurd (omega (arith, in_count i g m, count_here i g, h i (Memᴰ.head refl))),
  distinct_of g (λ j m. omega (arith, count_tail j i g, h j (Memᴰ.tail m))),
)

part_count : (i : ℕ) (g : List ℕ) (gs : List (List ℕ)) → Memᴰ g gs
    → count i g ≤ count i (flatten gs)
unfolding flatten
part_count i g [] m = elim m [ ]
part_count i g (h ∷ gs) (Memᴰ.head e) =
    subst (λ x. count i x ≤ count i (h ++ flatten gs)) (sym e)
    (omega (arith, count_append i h (flatten gs)))
part_count i g (h ∷ gs) (Memᴰ.tail m) =
    omega (arith, count_append i h (flatten gs), part_count i g gs m)

pub group_distinct : (g : List ℕ) (gs : List (List ℕ)) → Memᴰ g gs
    → ((i : ℕ) → Memᴰ i g → count i (flatten gs) ≡ 1) → Distinct g
group_distinct g gs m h = distinct_of g (λ i k. omega (arith, part_count i g gs m, h i k))

-- and so are their keys, if two numbers with one key are one
pub keys_distinct : (key : ℕ → ℕ) (g : List ℕ)
    → ((i j : ℕ) → Memᴰ i g → Memᴰ j g → key i ≡ key j → i ≡ j) → Distinct g
    → Distinct (map key g)
keys_distinct key [] h d = tt
keys_distinct key (i ∷ g) h d = (
  λ m. let r = Memᴰ.of_map key g m in
      d.0 (Memᴰ.cast (h i r.0 (Memᴰ.head refl) (Memᴰ.tail r.1) (sym r.2))
      r.1),
  keys_distinct key g (λ j k m n. h j k (Memᴰ.tail m) (Memᴰ.tail n)) d.1,
)
