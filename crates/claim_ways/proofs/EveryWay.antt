-- The claim on ways, proved.
use Prim.Native.Nat.{ℕ, ◌*◌, ◌≤◌, ◌<◌}
use mathlib.Core.Path.{◌≡◌, refl, sym, ap, ap₂, ◌∙◌, subst}
use mathlib.Core.Logic.{◌⊎◌, inl, inr}
use mathlib.Core.Bool.{Bool, true}
use mathlib.Core.List.{List, [], ◌∷◌, ◌++◌, map, Memᴰ}
use mathlib.Core.Option.{Option}
use native.Mathlib.Omega.{arith}
use lib.Dec.{T}
use lib.ListN.{length, get_or}
use Rattle.armv4t.specs.Bit0.{clear_bit0}
use Rattle.armv4t.specs.Instr.{size_of}
use Rattle.file_blocks.specs.Parse.{Block, block_key}
use Rattle.plan_groups.specs.Plan.{groups}
use Rattle.plan_groups.proofs.GroupLaws.{group_same}
use Rattle.c_tree.specs.Stmt.{guard, Code, block, group, Top, function}
use Rattle.lower_forms.specs.Forms.{Body}
use Rattle.lower_units.specs.Block.{body_key, block_code}
use Rattle.file_blocks.specs.Address.{outside_rom_bios}
use Rattle.lower_units.specs.Units.{with_locals, group_code, emit_group, unit_head, last_unit_end}
use Rattle.lower_units.specs.Units.{bodies_of, emit_c_chunked, units_by}
use Rattle.claim_ways.specs.Ways.{Event, said, Way, stop, w_gap, w_call}
use Rattle.claim_ways.proofs.Faithful.{Faithful}
use Rattle.claim_ways.specs.Claim.{AtNative, all_units, Passed, WayClaim, ClaimOf}
use Rattle.claim_ways.proofs.Logic.{Follow}
use Rattle.claim_ways.proofs.Followed.{group_follows}
use Rattle.claim_ways.proofs.Bounded.{total, Spent, at_most_total, spent_rules, parts}
use Rattle.claim_ways.proofs.Once.{lone_rises, once_of}
use Rattle.claim_ways.proofs.Guarded.{Allowed, Apart, History, history_rules, lone_seen}
use Rattle.claim_ways.proofs.Guarded.{guarded_of}
use Rattle.base_lists.proofs.Places.{found_at}
use Rattle.claim_ways.proofs.Functions.{Own, head_foreign, end_foreign, InGroup, from_cut}
use Rattle.claim_ways.proofs.Functions.{Many, forwarder, Alone, Among, block_stands}
use Rattle.claim_ways.proofs.Functions.{group_stands}
use Rattle.claim_ways.proofs.Members.{Good, File, bodies, key_of, member_of, several, one}
use Rattle.claim_ways.proofs.Members.{good, same_place, apart}
use Rattle.file_blocks.proofs.Nowhere.{nowhere}

-- a way from a forwarder is none, or one through a group's function
called : {ts : List Top} {f : Code} {k n : ℕ} {xs : List Bool} {es : List Event}
    → Way ts f (forwarder k n) xs es
    → (es ≡ []) ⊎ ((c : Code) × Memᴰ (function (group k) c) ts × Way ts c c xs es)
called stop = inl refl
called (w_gap stop) = inl refl
called (w_gap (w_call m w)) = inr (_, m, w)

module _ (limit : ℕ) (bodies : List Body) (apart : Apart bodies) where
  -- what the two logics of groups say of some events
  abbrev Both : List Body → List Event → Type 0
  Both g es = Follow (Spent limit g) es 0 × Follow (History bodies) es []

  group_both : (g : List Body) → Many g → Good limit bodies g
      → {ts : List Top} {xs : List Bool} {es : List Event}
      → Way ts (group_code g) (group_code g) xs es → Both g es
  group_both [] v h {ts = ts} {xs = xs} {es = es} w = elim v [ ]
  group_both (b ∷ []) v h {ts = ts} {xs = xs} {es = es} w = elim v [ ]
  group_both (b ∷ c ∷ g) v h w =
      let small : total (b ∷ c ∷ g) ≤ limit = h.small tt in (
        group_follows (Spent limit (b ∷ c ∷ g)) b (c ∷ g)
            (λ d m. spent_rules limit (b ∷ c ∷ g) small d m (h.members d m)) 0
            (record {
              first = omega arith;
              second = omega arith;
              third = omega arith;
              fourth = omega arith;
            })
            (λ k m. omega (arith, at_most_total (clear_bit0 k) (b ∷ c ∷ g))) w,
        group_follows (History bodies) b (c ∷ g)
            (λ d m. history_rules bodies apart d (h.inside d m) (map body_key (b ∷ c ∷ g))) []
            (record {
              first = λ d n a. absurd a;
              second = λ d n a. absurd a;
              third = λ d n a. absurd a;
              fourth = λ d n a. absurd a;
            }) (λ k m. tt) w,
      )

module _ (F : File) (max : ℕ) where
  open F use {hash_of, body_of, faithful, bs, limit}

  -- a function of the units stands in a group of the plan
  in_group : (t : Top) → Own t → Memᴰ t (all_units body_of limit max bs)
      → (g : List ℕ) × Memᴰ g (groups limit bs)
      × Memᴰ t (emit_group (bodies_of (bodies F) g))
  unfolding all_units units_by emit_c_chunked
  in_group t o m =
      go (from_cut max (last_unit_end (bodies F)) (end_foreign (bodies F)) t o
      (map (bodies_of (bodies F)) (groups limit bs)) unit_head 0 m)
    where
      go : Memᴰ t unit_head ⊎ InGroup t (map (bodies_of (bodies F)) (groups limit bs))
          → (g : List ℕ) × Memᴰ g (groups limit bs)
          × Memᴰ t (emit_group (bodies_of (bodies F) g))
      go (inl k) = absurd (head_foreign t o k)
      go (inr h) =
          let r = mathlib.Core.List.Memᴰ.of_map (bodies_of (bodies F)) (groups limit bs) h.1 in
          (r.0, r.1, subst (λ g. Memᴰ t (emit_group g)) (sym r.2) h.2)

  -- a way from a forwarder
  forwarded : (k n : ℕ) {xs : List Bool} {es : List Event}
      → Way (all_units body_of limit max bs) (forwarder k n) (forwarder k n) xs es
      → (g : List Body) × Both limit (bodies F) (apart F) g es
  forwarded k n {xs} {es} w = go (called w)
    where
      go : (es ≡ [])
          ⊎ ((c : Code) × Memᴰ (function (group k) c) (all_units body_of limit max bs)
          × Way (all_units body_of limit max bs) c c xs es)
          → (g : List Body) × Both limit (bodies F) (apart F) g es
      go (inl e) = ([], subst (Both limit (bodies F) (apart F) []) (sym e) (tt, tt))
      go (inr r) =
          let q = in_group (function (group k) r.0) tt r.1 in
          let p = group_stands k r.0 (bodies_of (bodies F) q.0) q.2 in (
            bodies_of (bodies F) q.0,
            group_both limit (bodies F) (apart F) (bodies_of (bodies F) q.0) p.0
                (good F q.0 q.1)
                (subst (λ c. Way (all_units body_of limit max bs) c c xs es) p.1 r.2),
          )

  -- what is known of a body is known of its block
  passed : (b : Block) (es : List Event) → Allowed (body_of b) es → Passed hash_of b es
  passed b es p = (
    p.0,
    sym (faithful.hash b) ∙ p.1,
    mathlib.Core.List.Memᴰ.cast
        (ap₂ (λ (a l : ℕ). said (guard a l p.0) true) (sym (faithful.addr b))
        (sym (ap₂ (λ (n s : ℕ). n * s) (faithful.count b) (ap size_of (faithful.thumb b)))))
        p.2,
  )

  is_guarded : (b : Block) → T (outside_rom_bios b.addr) → T (outside_rom_bios (body_of b).addr)
  is_guarded b t = subst (λ (a : ℕ). T (outside_rom_bios a)) (sym (faithful.addr b)) t

  seen : (es us vs : List Event) (e : Event) → es ≡ us ++ (e ∷ vs)
      → Follow (History (bodies F)) es [] → (b : Block) → Memᴰ b bs → AtNative (block_key b) e
      → T (outside_rom_bios b.addr)
      → Passed hash_of b us
  seen es us vs e p h b m n t =
      passed b us
      (guarded_of (bodies F) us vs e (subst (λ es'. Follow (History (bodies F)) es' []) p h)
      (body_of b) (mathlib.Core.List.Memᴰ.map body_of m)
      (subst (λ k. AtNative k e) (sym (key_of F b)) n) (is_guarded b t))

  -- block i stands in the group of its function
  here : (i : ℕ) → i < length bs → (g : List ℕ) → Memᴰ g (groups limit bs) → (b : Body)
      → Memᴰ b (bodies_of (bodies F) g)
      → body_key b ≡ block_key (get_or bs i nowhere) → Memᴰ i g
  here i h g m b n e =
      let r = member_of F g m b n in
      let same : r.0 ≡ i =
      same_place F r.0 i r.2 h (ap body_key r.3 ∙ e ∙ sym (key_of F _)) in
      mathlib.Core.List.Memᴰ.cast (sym same) r.1

  module _ (i : ℕ) (h : i < length bs) (g : List ℕ) (m : Memᴰ g (groups limit bs))
      (es : List Event) where
    kept_lone : (b : Body) → bodies_of (bodies F) g ≡ b ∷ []
        → body_key b ≡ block_key (get_or bs i nowhere)
        → {xs : List Bool}
        → Way (all_units body_of limit max bs) (with_locals (block_code [] b))
        (with_locals (block_code [] b)) xs es → WayClaim hash_of limit bs i es
    kept_lone b e k w =
        let there : Memᴰ b (bodies_of (bodies F) g) =
        subst (λ l. Memᴰ b l) (sym e) (mathlib.Core.List.Memᴰ.head refl) in
        let single : length g ≡ 1 = one F g b e in
        let mine : Memᴰ i g = here i h g m b there k in
        record {
          bounded = λ v us ps vs p q.
              let same : v.0 ≡ g = group_same limit bs v.0 g v.1 m i v.2 mine in
              absurd (let z : length v.0 ≡ length g = ap length same in omega (arith, v.3));
          once = λ v k j. once_of k j es (lone_rises b w);
          guarded =
              λ us vs e' p. seen es us vs e' p
              (lone_seen (bodies F) (apart F) b ((good F g m).inside b there) w);
        }

    kept_several : Many (bodies_of (bodies F) g) → (b : Body) → Memᴰ b (bodies_of (bodies F) g)
        → body_key b ≡ block_key (get_or bs i nowhere)
        → (g' : List Body) → Both limit (bodies F) (apart F) g' es → WayClaim hash_of limit bs i es
    kept_several v b n k g' q =
        let mine : Memᴰ i g = here i h g m b n k in
        record {
          bounded =
              λ s us ps vs p z. parts limit g' us ps vs
              (subst (λ es'. Follow (Spent limit g') es' 0) p q.0) z;
          once = λ s k j.
              let same : (i ∷ []) ≡ g =
              group_same limit bs (i ∷ []) g s m i (mathlib.Core.List.Memᴰ.head refl) mine in
              absurd (let z : 1 ≡ length g = ap length same in omega (arith, several F g v));
          guarded = λ us vs e p. seen es us vs e p q.1;
        }

    kept : (c : Code)
        → Alone (block_key (get_or bs i nowhere)) c (bodies_of (bodies F) g)
        ⊎ Among (block_key (get_or bs i nowhere)) c (bodies_of (bodies F) g)
        → (xs : List Bool) → Way (all_units body_of limit max bs) c c xs es
        → WayClaim hash_of limit bs i es
    kept c (inl a) xs w =
        kept_lone a.0 a.1 a.2
        (subst (λ d. Way (all_units body_of limit max bs) d d xs es) a.3 w)
    kept c (inr a) xs w =
        let q =
        forwarded a.2.0 a.2.1
        (subst (λ d. Way (all_units body_of limit max bs) d d xs es) a.2.2 w) in
        kept_several a.0 a.1.0 a.1.1 a.1.2 q.0 q.1

-- demand 3
pub every_way : (hash_of : Block → Option ℕ) (body_of : Block → Body) → Faithful hash_of body_of
    → (limit max : ℕ) (f : List ℕ) → ClaimOf hash_of body_of limit max f
unfolding ClaimOf
every_way hash_of body_of faithful limit max f bs accepted i b e c m xs es w =
    let F : File =
    record {
      hash_of = hash_of;
      body_of = body_of;
      faithful = faithful;
      bytes = f;
      bs = bs;
      accepted = accepted;
      limit = limit;
    } in
    let at = found_at bs i nowhere b e in
    let k : ℕ = block_key (get_or bs i nowhere) in
    let g =
    in_group F max (function (block k) c) tt
    (subst (λ d. Memᴰ (function (block (block_key d)) c) (all_units body_of limit max bs))
    (sym at.1) m) in
    kept F max i at.0 g.0 g.1 es c (block_stands k c (bodies_of (bodies F) g.0) g.2)
    xs w
