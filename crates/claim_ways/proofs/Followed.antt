-- What a logic says of the ways through a function: a lone block's, or a group's.
use Prim.Native.Nat.{ℕ}
use mathlib.Core.Path.{refl}
use mathlib.Core.Bool.{Bool}
use mathlib.Core.List.{List, [], ◌∷◌, map, Memᴰ}
use Rattle.c_tree.specs.Stmt.{common, Simple, gap, record_mark, plain, label, goto, ret, ret_if}
use Rattle.c_tree.specs.Stmt.{interp, ret_interp, call, switch, Code, end, ◌⨾◌, when, braces, ◌⧺◌}
use Rattle.c_tree.specs.Stmt.{Top}
use Rattle.lower_forms.specs.Forms.{Body}
use Rattle.lower_units.specs.Block.{body_key, nl, sp, block_code}
use Rattle.lower_units.specs.Units.{with_locals, labelled, group_code}
use Rattle.claim_ways.specs.Ways.{Event, reach, Way}
use Rattle.claim_ways.proofs.Logic.{Logic, Ok, At, Labels, append, Follow, Done, sound}
use Rattle.claim_ways.proofs.Emitted.{Rules, ok_block}
use Rattle.claim_ways.proofs.Bare.{NoLabel, Bare, bare_block}

module _ (L : Logic) where
  open L use {S, step, allow, owed}

  at_plain : (x : Simple) → NoLabel x → (c : Code) (K : S → Type 0) → At L x c K
  at_plain (gap l n) h c K = tt
  at_plain (record_mark b p n) h c K = tt
  at_plain (plain o t) h c K = tt
  at_plain (label k) h c K = absurd h
  at_plain (goto o k) h c K = tt
  at_plain (ret o t) h c K = tt
  at_plain (ret_if o t e) h c K = tt
  at_plain (call k n) h c K = tt
  at_plain (interp b p) h c K = tt
  at_plain (ret_interp b p) h c K = tt
  at_plain (switch ks) h c K = tt

  bare_labels : (c : Code) → Bare c → (K : S → Type 0) → Labels L c K
  bare_labels end h K = tt
  bare_labels (x ⨾ c) h K = (at_plain x h.0 c K, bare_labels c h.1 K)
  bare_labels (when o n t b c) h K = (bare_labels b h.0 _, bare_labels c h.1 K)
  bare_labels (braces b c) h K = (bare_labels b h.0 _, bare_labels c h.1 K)

  bare_append : (c d : Code) → Bare c → (K : S → Type 0) → Labels L d K → Labels L (c ⧺ d) K
  bare_append end d h K l = l
  bare_append (x ⨾ c) d h K l = (at_plain x h.0 (c ⧺ d) K, bare_append c d h.1 K l)
  bare_append (when o n t b c) d h K l = (bare_labels b h.0 _, bare_append c d h.1 K l)
  bare_append (braces b c) d h K l = (bare_labels b h.0 _, bare_append c d h.1 K l)

  abbrev from : List ℕ → Body → List Body → Code
  from ks b bs = block_code ks b ⧺ (nl ⨾ labelled ks bs)

  ok_labelled : (ks : List ℕ) (b : Body) (bs : List Body) (R : Rules L b ks) (s : S) → R.Pre s
      → Ok L (from ks b bs) s (Done L)
  ok_labelled ks b bs R s i =
      append L (block_code ks b) (nl ⨾ labelled ks bs) s (Done L) (ok_block L b ks R _ s i)

  labels_labelled : (ks : List ℕ) (bs : List Body) → ((b : Body) → Memᴰ b bs → Rules L b ks)
      → Labels L (labelled ks bs) (Done L)
  unfolding labelled
  labels_labelled ks [] R = tt
  labels_labelled ks (b ∷ bs) R =
      let r : Rules L b ks = R b (Memᴰ.head refl) in (
        λ s o. ok_labelled ks b bs r s (r.lands s o),
        (
          tt,
          bare_append (block_code ks b) (nl ⨾ labelled ks bs) (bare_block ks b) (Done L)
              (tt, labels_labelled ks bs (λ c m. R c (Memᴰ.tail m))),
        ),
      )

  -- past the declarations
  abbrev pub opened : S → S
  opened s = step (step (step s (reach common)) (reach common)) (reach common)

  pub record Opens (s : S) : Type 0 where
    pub first : allow s (reach common)
    pub second : allow (step s (reach common)) (reach common)
    pub third : allow (step (step s (reach common)) (reach common)) (reach common)
    pub fourth : allow (opened s) (reach common)

  locals_follow : (c : Code) (s : S) → Opens s → Ok L c (opened s) (Done L) → Labels L c (Done L)
      → {ts : List Top} {xs : List Bool} {es : List Event}
      → Way ts (with_locals c) (with_locals c) xs es → Follow L es s
  unfolding with_locals
  locals_follow c s o h l way =
      sound L (tt, (tt, (tt, (tt, (tt, (tt, (tt, l))))))) way s
      (o.first, (o.second, (o.third, h)))

  pub group_follows : (b : Body) (g : List Body)
      → ((c : Body) → Memᴰ c (b ∷ g) → Rules L c (map body_key (b ∷ g))) → (s : S) → Opens s
      → ((k : ℕ) → Memᴰ k (map body_key (b ∷ g)) → owed k (opened s))
      → {ts : List Top} {xs : List Bool} {es : List Event}
      → Way ts (group_code (b ∷ g)) (group_code (b ∷ g)) xs es → Follow L es s
  unfolding group_code labelled
  group_follows b g R s o w way =
      let r : Rules L b (map body_key (b ∷ g)) = R b (Memᴰ.head refl) in
      locals_follow
      (sp 4 ⨾ switch (map body_key (b ∷ g)) ⨾ nl ⨾ labelled (map body_key (b ∷ g)) (b ∷ g)) s o (
        w,
        o.fourth,
        ok_labelled (map body_key (b ∷ g)) b g r (opened s)
            (r.lands (opened s) (w (body_key b) (Memᴰ.head refl))),
      )
      (tt, (tt, (tt, labels_labelled (map body_key (b ∷ g)) (b ∷ g) R))) way

  pub lone_follows : (b : Body) (R : Rules L b []) (s : S) → Opens s → R.Pre (opened s)
      → {ts : List Top} {xs : List Bool} {es : List Event}
      → Way ts (with_locals (block_code [] b)) (with_locals (block_code [] b)) xs es → Follow L es s
  lone_follows b R s o i way =
      locals_follow (block_code [] b) s o (ok_block L b [] R (Done L) (opened s) i)
      (bare_labels (block_code [] b) (bare_block [] b) (Done L)) way
