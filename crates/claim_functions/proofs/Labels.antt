-- The labels of a function inside no braces: those of its blocks.
use Prim.Native.Nat.{ℕ}
use mathlib.Core.Path.{◌≡◌, refl, sym, subst}
use mathlib.Core.Logic.{◌⊎◌, inl, inr}
use mathlib.Core.List.{List, [], ◌∷◌, map, Memᴰ}
use Rattle.c_tree.specs.Stmt.{Simple, label, Code, end, ◌⨾◌, when, braces, ◌⧺◌}
use Rattle.lower_forms.specs.Forms.{Body}
use Rattle.lower_units.specs.Block.{body_key, nl, block_code}
use Rattle.lower_units.specs.Units.{with_locals, labelled, group_code}
use Rattle.claim_ways.proofs.Bare.{NoLabel, Bare, bare_block}
use Rattle.claim_functions.specs.Execution.{LabelIn, l_here, l_later, l_when, l_braces}

-- at a statement: it is the label, or the label stands after it
pub at_simple : {k : ℕ} {s : Simple} {c d : Code} → LabelIn k (s ⨾ c) d
    → ((label k ≡ s) × (c ≡ d)) ⊎ LabelIn k c d
at_simple l_here = inl (refl, refl)
at_simple (l_later p) = inr p

-- past a statement that is no label
pub past_simple : {k : ℕ} {s : Simple} {c d : Code} → NoLabel s → LabelIn k (s ⨾ c) d
    → LabelIn k c d
past_simple {k} {s} {c} {d} h p = go (at_simple p)
  where
    go : ((label k ≡ s) × (c ≡ d)) ⊎ LabelIn k c d → LabelIn k c d
    go (inl e) = absurd (subst NoLabel (sym e.0) h)
    go (inr q) = q

-- past code without labels
pub past_bare : {k : ℕ} (c : Code) {d e : Code} → Bare c → LabelIn k (c ⧺ d) e → LabelIn k d e
past_bare end h p = p
past_bare (s ⨾ c) h p = past_bare c h.1 (past_simple h.0 p)
past_bare (when o n t b c) h (l_when p) = past_bare c h.1 p
past_bare (braces b c) h (l_braces p) = past_bare c h.1 p

-- code that has a statement
abbrev pub Some : Code → Type 0
Some end = ⊥
Some (s ⨾ c) = Unit {0}
Some (when o n t b c) = Unit {0}
Some (braces b c) = Unit {0}

pub some_in : {k : ℕ} {c e : Code} → LabelIn k c e → Some c
some_in l_here = tt
some_in (l_later p) = tt
some_in (l_when p) = tt
some_in (l_braces p) = tt

-- code without labels has none
none_in : {k : ℕ} (c : Code) {e : Code} → Bare c → LabelIn k c e → ⊥
none_in end h p = some_in p
none_in (s ⨾ c) h p = none_in c h.1 (past_simple h.0 p)
none_in (when o n t b c) h (l_when p) = none_in c h.1 p
none_in (braces b c) h (l_braces p) = none_in c h.1 p

-- past the head of a function
pub past_locals : {k : ℕ} (c : Code) {d : Code} → LabelIn k (with_locals c) d → LabelIn k c d
unfolding with_locals
past_locals c p =
    past_simple tt
    (past_simple tt
    (past_simple tt (past_simple tt (past_simple tt (past_simple tt (past_simple tt p))))))

-- a block's text with the label k, and d from there on
abbrev pub BlockAt : List ℕ → List Body → ℕ → Code → Type 0
BlockAt ks bs k d = (b : Body) × Memᴰ b bs × (body_key b ≡ k)
    × ((rest : Code) × (d ≡ nl ⨾ (block_code ks b ⧺ rest)))

-- among labelled texts
pub in_labelled : {k : ℕ} (ks : List ℕ) (bs : List Body) {d : Code} → LabelIn k (labelled ks bs) d
    → BlockAt ks bs k d
unfolding labelled
in_labelled ks [] p = absurd (some_in p)
in_labelled {k} ks (b ∷ bs) {d} p = go (λ q. in_labelled ks bs q) (at_simple p)
  where
    more : BlockAt ks bs k d → BlockAt ks (b ∷ bs) k d
    more r = (r.0, Memᴰ.tail r.1, r.2, r.3)

    go : (LabelIn k (labelled ks bs) d → BlockAt ks bs k d)
        → ((label k ≡ label (body_key b)) × ((nl ⨾ (block_code ks b ⧺ (nl ⨾ labelled ks bs))) ≡ d))
        ⊎ LabelIn k (nl ⨾ (block_code ks b ⧺ (nl ⨾ labelled ks bs))) d
        → BlockAt ks (b ∷ bs) k d
    go f (inl e) = (
      b,
      Memᴰ.head refl,
      (let l : label k ≡ label (body_key b) = e.0 in cc),
      (nl ⨾ labelled ks bs, sym e.1),
    )
    go f (inr q) =
        more (f (past_simple tt (past_bare (block_code ks b) (bare_block ks b) (past_simple tt q))))

-- in the function of a group
pub in_group_code : {k : ℕ} (bs : List Body) {d : Code} → LabelIn k (group_code bs) d
    → BlockAt (map body_key bs) bs k d
unfolding group_code
in_group_code bs p =
    in_labelled (map body_key bs) bs
    (past_simple tt (past_simple tt (past_simple tt (past_locals _ p))))

-- in the function of a lone block there is none
pub none_in_lone : {k : ℕ} (b : Body) {d : Code} → LabelIn k (with_locals (block_code [] b)) d → ⊥
none_in_lone b p = none_in (block_code [] b) (bare_block [] b) (past_locals (block_code [] b) p)

-- after other code
pub after_code_lem : {k : ℕ} (c : Code) {d e : Code} → LabelIn k d e → LabelIn k (c ⧺ d) e
after_code_lem end p = p
after_code_lem (s ⨾ c) p = l_later (after_code_lem c p)
after_code_lem (when o n t b c) p = l_when (after_code_lem c p)
after_code_lem (braces b c) p = l_braces (after_code_lem c p)

-- each block of a group has its label
to_labelled : (ks : List ℕ) (b : Body) (bs : List Body) → Memᴰ b bs
    → (rest : Code) × LabelIn (body_key b) (labelled ks bs) (nl ⨾ (block_code ks b ⧺ rest))
unfolding labelled
to_labelled ks b [] m = elim m [ ]
to_labelled ks b (c ∷ bs) (Memᴰ.head e) =
    subst (λ x. (rest : Code)
    × LabelIn (body_key x) (labelled ks (c ∷ bs)) (nl ⨾ (block_code ks x ⧺ rest))) (sym e)
    (nl ⨾ labelled ks bs, l_here)
to_labelled ks b (c ∷ bs) (Memᴰ.tail m) =
    let r = to_labelled ks b bs m in
    (r.0, l_later (l_later (after_code_lem (block_code ks c) (l_later r.1))))

pub to_label : (b : Body) (bs : List Body) → Memᴰ b bs
    → (rest : Code)
    × LabelIn (body_key b) (group_code bs) (nl ⨾ (block_code (map body_key bs) b ⧺ rest))
unfolding group_code with_locals
to_label b bs m =
    let r = to_labelled (map body_key bs) b bs m in (
      r.0,
      l_later
          (l_later
          (l_later (l_later (l_later (l_later (l_later (l_later (l_later (l_later r.1))))))))),
    )
