-- Each group stands whole in the unit of each of its functions.
use Prim.Native.Nat.{ℕ, ◌+◌}
use mathlib.Core.Path.{◌≡◌, refl, sym, subst}
use mathlib.Core.Logic.{◌⊎◌, inl, inr}
use mathlib.Core.Bool.{Bool, true, false, cond}
use mathlib.Core.List.Memᴰ
use mathlib.Core.List.{List, [], ◌∷◌, ◌++◌, Memᴰ}
use lib.Dec.{leb}
use lib.ListN.{length}
use Rattle.c_tree.specs.Stmt.{Top}
use Rattle.lower_forms.specs.Forms.{Body}
use Rattle.lower_units.specs.Units.{TranslationUnit, emit_group, unit_head, text_of, cut}
use Rattle.claim_ways.proofs.Functions.{Own, Foreign, head_foreign}

module _ (all : List (List Body)) where
  -- a tree with each group whole
  abbrev pub Whole : List Top → Type 0
  Whole ts = (t : Top) → Own t → Memᴰ t ts
      → (g : List Body) × Memᴰ g all × Memᴰ t (emit_group g)
      × ((s : Top) → Memᴰ s (emit_group g) → Memᴰ s ts)

  pub whole_none : (ts : List Top) → Foreign ts → Whole ts
  whole_none ts h t o m = absurd (h t o m)

  whole_both : (ss ts : List Top) → Whole ss → Whole ts → Whole (ss ++ ts)
  whole_both ss ts f g t o m = go (Memᴰ.append_cases ss m)
    where
      go : Memᴰ t ss ⊎ Memᴰ t ts
          → (h : List Body) × Memᴰ h all × Memᴰ t (emit_group h)
          × ((s : Top) → Memᴰ s (emit_group h) → Memᴰ s (ss ++ ts))
      go (inl k) = let r = f t o k in (r.0, r.1, r.2, λ s q. Memᴰ.append_left ts (r.3 s q))
      go (inr k) = let r = g t o k in (r.0, r.1, r.2, λ s q. Memᴰ.append_right ss (r.3 s q))

  whole_group : (g : List Body) → Memᴰ g all → Whole (emit_group g)
  whole_group g h t o m = (g, h, m, λ s q. q)

  module _ (max : ℕ) (closed : List Top) (apart : Foreign closed) where
    pub whole_cut : (gs : List (List Body)) → ((g : List Body) → Memᴰ g gs → Memᴰ g all)
        → (ts : List Top) (n : ℕ) → Whole ts
        → (u : TranslationUnit) → Memᴰ u (cut max closed ts n gs) → Whole u.tree
    unfolding cut
    whole_cut [] h ts n w u (Memᴰ.head e) =
        subst (λ v. Whole v.tree) (sym e) (whole_both ts closed w (whole_none closed apart))
    whole_cut [] h ts n w u (Memᴰ.tail m) = absurd (Memᴰ.not-nil m)
    whole_cut (g ∷ gs) h ts n w u m =
        pick (leb max (length (text_of (ts ++ emit_group g))))
        (cut max closed unit_head (n + length g) gs)
        (cut max closed (ts ++ emit_group g) (n + length g) gs)
        (λ m. whole_cut gs (λ x k. h x (Memᴰ.tail k)) unit_head (n + length g)
        (whole_none unit_head head_foreign) u m)
        (λ m. whole_cut gs (λ x k. h x (Memᴰ.tail k)) (ts ++ emit_group g) (n + length g) with-g
        u m) m
      where
        with-g : Whole (ts ++ emit_group g)
        with-g = whole_both ts (emit_group g) w (whole_group g (h g (Memᴰ.head refl)))

        pick : (x : Bool) (us vs : List TranslationUnit) → (Memᴰ u us → Whole u.tree)
            → (Memᴰ u vs → Whole u.tree)
            → Memᴰ u
            (cond x (record { tree = ts ++ emit_group g; done = n + length g; last = false }
            ∷ us) vs) → Whole u.tree
        pick true us vs f k m = go (Memᴰ.cases_cons m)
          where
            go : (u ≡ record { tree = ts ++ emit_group g; done = n + length g; last = false })
                ⊎ Memᴰ u us → Whole u.tree
            go (inl e) = subst (λ v. Whole v.tree) (sym e) with-g
            go (inr q) = f q
        pick false us vs f k m = k m
