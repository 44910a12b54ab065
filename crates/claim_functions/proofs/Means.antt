-- What an execution of a block's function carries out.
use Prim.Native.Nat.{ℕ, zero, suc, ◌+◌, ◌≤◌, ◌<◌}
use mathlib.Core.Path.{◌≡◌, refl, sym, ap, ◌∙◌, subst}
use mathlib.Core.Logic.{◌⊎◌, inl, inr}
use mathlib.Core.Bool.{Bool, true}
use mathlib.Core.List.{List, [], ◌∷◌, ◌++◌, map, flatten, Memᴰ}
use mathlib.Core.Option.{none, some}
use native.Mathlib.Nat.{le_of_suc-le-suc, not-suc-le-zero, mod-eq_of_lt}
use native.Mathlib.Omega.{arith}
use lib.Dec.{T}
use lib.ListN.{length, get_or, get_elem?, length-map, length-append}
use Rattle.file_instrs.specs.declared.decode.TimedInstr.{TimedInstr}
use Rattle.file_blocks.specs.Parse.{Block, Parsed, parse, block_key}
use Rattle.file_blocks.specs.Address.{region}
use Rattle.base_lists.specs.Lists.{among as isAmong}
use Rattle.file_blocks.proofs.Nowhere.{nowhere}
use Rattle.plan_groups.specs.Plan.{groups}
use Rattle.file_blocks.proofs.Accepted.{few_blocks, length_of_lem}
use Rattle.plan_groups.proofs.PlanLength.{groups_length}
use Rattle.plan_groups.proofs.GroupLaws.{groups_once, group_inside, group_same}
use Rattle.base_lists.proofs.Places.{map_at, found_at}
use Rattle.c_tree.specs.Stmt.{Code, end, ◌⨾◌, ◌⧺◌, block, group, Top, function}
use Rattle.c_meaning.specs.State.{State}
use Rattle.armv4t_manual.specs.Machine.{Machine, Sound}
use Rattle.lower_forms.specs.Block.{hash_of, body_of}
use Rattle.lower_forms.specs.Forms.{Body}
use Rattle.lower_forms.specs.Agree.{Agrees}
use Rattle.lower_units.specs.Block.{body_key, nl, block_code}
use Rattle.lower_units.specs.Units.{TranslationUnit, with_locals, group_code, emit_group, unit_head}
use Rattle.lower_units.specs.Units.{last_unit_end, default_body, bodies_of, emit_c_chunked, units_by}
use Rattle.lower_units.specs.Units.{units}
use Rattle.claim_meaning.specs.Block.{Interprets, is_covered, Carries, in_order, granted, absent}
use Rattle.claim_meaning.specs.Block.{refused, BlockMeans}
use Rattle.claim_meaning.specs.Meaning.{MeaningOf}
use Rattle.claim_meaning.proofs.Meaning.{meaning_of}
use Rattle.file_blocks.proofs.Ranges.{accepted_consecutive, accepted_some, accepted_end}
use Rattle.file_blocks.proofs.Ranges.{accepted_aligned}
use Rattle.claim_meaning.proofs.Blocks.{placed, start_below}
use Rattle.claim_meaning.proofs.Carried.{left_all}
use Rattle.claim_ways.specs.Ways.{LabelAt, Event}
use Rattle.claim_ways.specs.Claim.{all_units}
use Rattle.claim_ways.proofs.Functions.{Own, head_foreign, end_foreign, InGroup, from_cut, Alone}
use Rattle.claim_ways.proofs.Members.{File, bodies, key_of, member_of, same_place}
use Rattle.claim_functions.specs.Execution.{Result, underway, returned, LabelIn, at_start}
use Rattle.claim_functions.specs.Execution.{parameter, Executes}
use Rattle.claim_functions.specs.Labels.{LabelsPlain}
use Rattle.claim_functions.proofs.Plain.{Distinct, plain_group, none_lone, none_forwarder}
use Rattle.claim_functions.proofs.Plain.{once_group, group_distinct, keys_distinct}
use Rattle.claim_functions.specs.Chain.{SameGroup, Chain, c_last, c_more}
use Rattle.claim_functions.specs.Counted.{counted, block_events, chain_events, last_events}
use Rattle.claim_functions.specs.Means.{ExecutionMeans, ExecutionBegins, ExecutionGetsOn}
use Rattle.claim_functions.specs.Determined.{ExecutionDetermined}
use Rattle.claim_functions.proofs.Ways.{label_at}
use Rattle.claim_functions.proofs.Determined.{alike}
use Rattle.claim_functions.proofs.Gotos.{among_key}
use Rattle.claim_functions.proofs.GetsOn.{Gets, gets, gets_gap, gets_head, gets_case}
use Rattle.claim_functions.proofs.GetsOn.{gets_forwarder}
use Rattle.claim_functions.proofs.Pieces.{whole_none, whole_cut}
use Rattle.claim_functions.proofs.Claim.{in_units}
use Rattle.claim_functions.proofs.Log.{log, append_nil}
use Rattle.claim_functions.proofs.Logged.{FactsFrom}
use Rattle.claim_functions.proofs.BlockLog.{block_log}
use Rattle.claim_functions.proofs.Follow.{Ready, Ended, ToCome, from_label, from_block}
use Rattle.claim_functions.proofs.Labels.{in_group_code, none_in_lone, to_label}
use Rattle.claim_functions.proofs.Entering.{Early, From, in_function, past_gap, past_head}
use Rattle.claim_functions.proofs.Entering.{past_forwarder, past_switch}
use Rattle.claim_functions.proofs.Functions.{Forwards, block_function, group_function}
use Rattle.claim_ways.proofs.Emitted.{among→mem}
use Rattle.claim_ways.proofs.Demand3.{faithful}
use Rattle.c_tree.proofs.Laws.{append_end}

-- what stands at a place of a list
at_place : {A : Type 0} (xs : List A) (i : ℕ) (d : A) → i < length xs
    → get_elem? xs i ≡ some (get_or xs i d)
at_place [] i d h = absurd (not-suc-le-zero h)
at_place (x ∷ xs) zero d h = refl
at_place (x ∷ xs) (suc i) d h = at_place xs i d (le_of_suc-le-suc h)

in_list : {A : Type 0} (xs : List A) (i : ℕ) (a : A) → get_elem? xs i ≡ some a → Memᴰ a xs
in_list [] i a e = absurd (let z : ◌≡◌ {A = ℕ} 0 1 = cc in omega arith)
in_list (x ∷ xs) zero a e = let same : a ≡ x = cc in mathlib.Core.List.Memᴰ.head same
in_list (x ∷ xs) (suc i) a e = mathlib.Core.List.Memᴰ.tail (in_list xs i a e)

-- what a block carries out is the same from another state in which the guard will say the same, and
-- what blocks one after the other do
carries_as : {step : ℕ → ℕ → Machine → Machine × ℕ} {region multiplier : ℕ} {b : Block} {y : State}
    {m : Machine} {out : Machine × ℕ} {used : ℕ} (k : ℕ) (z : State)
    → y.answers 0 ≡ z.answers 0 → (by : Carries step region multiplier b y m out used)
    → (same : Carries step region multiplier b z m out used)
    × (block_events k same ≡ block_events k by)
carries_as k z p (in_order n e s) = (in_order n e s, refl)
carries_as k z p (granted n h e f g s) = (granted n h e f (λ q. g (p ∙ q)) s, refl)
carries_as k z p (absent e f s) = (absent e f s, refl)
carries_as k z p (refused h e f g s) = (refused h e f (sym p ∙ g) s, refl)

chain_as : {step : ℕ → ℕ → Machine → Machine × ℕ} {multiplier : ℕ} {Member : Block → Type 0}
    {out : Machine × ℕ} {n k : ℕ} {y : State} {m : Machine} (z : State)
    → ((i : ℕ) → y.answers i ≡ z.answers i) → (c : Chain step multiplier Member out n k y m)
    → (d : Chain step multiplier Member out n k z m) × (chain_events d ≡ chain_events c)
    × (last_events d ≡ last_events c)
chain_as z p (c_last b used i e by) =
    let r = carries_as (block_key b) z (p 0) by in (c_last b used i e r.0, r.1, r.1)
chain_as z p (c_more b used next w i e by l r c) =
    let q = carries_as (block_key b) z (p 0) by in (
      c_more b used next w i e q.0 (l.0, λ j. l.1 j ∙ p (l.0 + j)) r c,
      ap
          (λ l. l ++ chain_events c) q.1,
      refl,
    )

-- a list is no longer than all lists that it stands among together
length_within : (g : List ℕ) (gs : List (List ℕ)) → Memᴰ g gs → length g ≤ length (flatten gs)
unfolding flatten
length_within g [] m = absurd (mathlib.Core.List.Memᴰ.not-nil m)
length_within g (h ∷ gs) (mathlib.Core.List.Memᴰ.head e) = rw (e, length-append) (omega arith)
length_within g (h ∷ gs) (mathlib.Core.List.Memᴰ.tail m) =
    rw length-append (omega (arith, length_within g gs m))

-- where there is an element, the place is below the length
below_length : (xs : List ℕ) (n k : ℕ) → get_elem? xs n ≡ some k → n < length xs
below_length [] n k e = absurd (let z : ◌≡◌ {A = ℕ} 0 1 = cc in omega arith)
below_length (x ∷ xs) zero k e = omega arith
below_length (x ∷ xs) (suc n) k e = omega (arith, below_length xs n k e)

module _ (multiplier limit max : ℕ) (f : List ℕ) (bs : List Block)
    (accepted : parse f ≡ Parsed.accepted bs) where
  -- the file as the ways have it
  abbrev F : File
  F = record {
    hash_of = hash_of multiplier;
    body_of = body_of multiplier;
    faithful = faithful multiplier;
    bytes = f;
    bs = bs;
    accepted = accepted;
    limit = limit;
  }

  -- the bodies of a group
  abbrev of_group : List ℕ → List Body
  of_group g = bodies_of (bodies F) g

  -- the number of a member's key fits the parameter of the group's function
  fits : (g : List ℕ) → Memᴰ g (groups limit bs) → (n k : ℕ)
      → get_elem? (map body_key (of_group g)) n ≡ some k → parameter n ≡ some n
  unfolding bodies_of
  fits g among n k e =
      let few : length bs ≤ 65536 = omega (arith, few_blocks f bs accepted, length_of_lem f bs accepted)
      in
      let short : length g ≤ length bs =
      omega (arith, length_within g (groups limit bs) among, groups_length bs limit) in
      let long : length (map body_key (of_group g)) ≡ length g = simp length-map in
      ap (λ (j : ℕ). some j)
      (mod-eq_of_lt (omega (arith, below_length (map body_key (of_group g)) n k e)))

  -- a function of the units stands in a group of the plan
  in_group : (t : Top) → Own t → Memᴰ t (all_units (body_of multiplier) limit max bs)
      → (g : List ℕ) × Memᴰ g (groups limit bs) × Memᴰ t (emit_group (of_group g))
  unfolding all_units units_by emit_c_chunked
  in_group t o m =
      go (from_cut max (last_unit_end (bodies F)) (end_foreign (bodies F)) t o
      (map (bodies_of (bodies F)) (groups limit bs)) unit_head 0 m)
    where
      go : Memᴰ t unit_head ⊎ InGroup t (map (bodies_of (bodies F)) (groups limit bs))
          → (g : List ℕ) × Memᴰ g (groups limit bs) × Memᴰ t (emit_group (of_group g))
      go (inl k) = absurd (head_foreign t o k)
      go (inr h) =
          let r = mathlib.Core.List.Memᴰ.of_map (bodies_of (bodies F)) (groups limit bs) h.1 in
          (r.0, r.1, subst (λ g. Memᴰ t (emit_group g)) (sym r.2) h.2)

  -- a body of a group is that of a block
  block_of : (g : List ℕ) → Memᴰ g (groups limit bs) → (c : Body) → Memᴰ c (of_group g)
      → (j : ℕ) × Memᴰ j g × (j < length bs) × (body_of multiplier (get_or bs j nowhere) ≡ c)
  block_of g m c h = member_of F g m c h

  -- bodies with one key, in two groups: the groups are one
  one_group : (g h : List ℕ) → Memᴰ g (groups limit bs) → Memᴰ h (groups limit bs)
      → (c d : Body) → Memᴰ c (of_group g) → Memᴰ d (of_group h)
      → body_key c ≡ body_key d → g ≡ h
  one_group g h m n c d i j e =
      let p = block_of g m c i in
      let q = block_of h n d j in
      let same : p.0
      ≡ q.0 =
      same_place F p.0 q.0 p.2 q.2
      (ap body_key p.3 ∙ e ∙ sym (ap body_key q.3)) in
      group_same limit bs g h m n p.0 p.1 (mathlib.Core.List.Memᴰ.cast same q.1)

  module _ (i : ℕ) (b : Block) (found : get_elem? bs i ≡ some b)
      (covered : (d : Block) → SameGroup limit bs i d → (x : TimedInstr) → Memᴰ x d.instrs
      → is_covered (region d.addr) x ≡ true)
      (step : ℕ → ℕ → Machine → Machine × ℕ) (z : State) (m : Machine)
      (interprets : (k : ℕ) → Interprets (step k) (z.interpreter k)) (sound : Sound m)
      (agrees : Agrees z m) where
    -- what is claimed of an execution that comes to r
    abbrev Claimed : Result → List Event → Type 0
    Claimed r es =
        (out : Machine × ℕ)
        × (c : Chain step multiplier (SameGroup limit bs i) out 0 (block_key b) z m)
        × Sound out.0 × Ended r out
        × ((rest : List Event) × ToCome r rest × (chain_events c ≡ counted es ++ rest)
        × ((part : List Event) × (last_events c ≡ part ++ rest)))

    -- so of one of which the same is counted, from after the head of a function
    claimed : (r : Result) (es es' : List Event) → counted es ≡ counted es'
        → ((out : Machine × ℕ)
        × (c : Chain step multiplier (SameGroup limit bs i) out 0 (block_key b) (in_function z) m)
        × Sound out.0 × Ended r out
        × ((rest : List Event) × ToCome r rest × (chain_events c ≡ counted es' ++ rest)
        × ((part : List Event) × (last_events c ≡ part ++ rest))))
        → Claimed r es
    claimed r es es' e q = let c = chain_as z (λ j. refl) q.1 in (
      q.0,
      c.0,
      q.2,
      q.3,
      (
        q.4.0,
        q.4.1,
        c.1 ∙ q.4.2
            ∙ ap (λ l. l ++ q.4.0) (sym e),
        (q.4.3.0, c.2 ∙ q.4.3.1),
      ),
    )

    -- the state after a function's head
    ready : Ready step 0 (in_function z) m
    ready =
        record {
          left =
              λ k. subst (λ j. Interprets (step j) (z.interpreter k)) (zero-add₁ k) (interprets k);
          declares = (none, refl);
          sound = sound;
          agrees = record { regs = agrees.regs; flags = agrees.flags; memory = agrees.memory };
        }
      where
        zero-add₁ : (k : ℕ) → k ≡ 0 + k
        zero-add₁ k = omega arith

    means : (ks : List ℕ) (d : Block) → SameGroup limit bs i d → BlockMeans multiplier ks d
    unfolding MeaningOf
    means ks d h =
        (meaning_of multiplier f bs accepted d (in_list bs h.3.0 d h.3.2) ks).whole

    -- what is known of a block's records
    facts : (ks : List ℕ) (d : Block) → SameGroup limit bs i d → FactsFrom ks d d.instrs
    unfolding MeaningOf
    facts ks d h =
        let m = in_list bs h.3.0 d h.3.2 in
        let k = meaning_of multiplier f bs accepted d m ks in
        record {
          each = λ x n.
              let p =
              placed d.addr d.thumb d.instrs (accepted_consecutive f bs accepted d m)
              (accepted_aligned f bs accepted d m) (accepted_end f bs accepted d m) x n
              in
              record {
                means = k.every_record x n;
                covered = covered d h x n;
                sound = k.sound x n;
                set = p.set;
                aligned = p.aligned;
                below = p.below;
              };
          pairs = k.pairs;
        }

    below : (d : Block) → SameGroup limit bs i d → d.addr < 4294967296
    below d h =
        let m = in_list bs h.3.0 d h.3.2 in
        start_below d.thumb d.addr (length d.instrs) (accepted_some f bs accepted d m)
        (accepted_end f bs accepted d m)

    logs : (ks : List ℕ) (d : Block) → SameGroup limit bs i d
        → (n : ℕ) (y : State) (o : Machine) (out : Machine × ℕ) (used : ℕ) → Ready step n y o
        → (by : Carries (λ i. step (n + i)) (region d.addr) multiplier d y o out used)
        → log (block_code ks (body_of multiplier d)) y ≡ block_events (block_key d) by
    logs ks d h n y o out used r by =
        block_log multiplier ks d (λ i. step (n + i)) (facts ks d h) (below d h) y o out used
        (record {
          left = left_all r.left;
          declares = r.declares;
          sound = r.sound;
          agrees = r.agrees;
        }) by

    -- where nothing is counted yet, the chain is that of the first block
    early : SameGroup limit bs i b → (r : Result) (es : List Event) → Early r (counted es)
        → Claimed r es
    early h r es q =
        let d =
        means [] b h (covered b h) (λ i. step (0 + i)) (in_function z) m ready.left
        ready.declares sound ready.agrees in
        let c : Chain step multiplier (SameGroup limit bs i) d.out 0 (block_key b) (in_function z)
        m = c_last b d.used h refl d.by in
        claimed r es es refl (
          d.out,
          c,
          d.sound,
          subst (λ r. Ended r d.out) (sym q.0) tt,
          (
            chain_events c,
            subst (λ r. ToCome r (chain_events c)) (sym q.0) tt,
            ap
                (λ l. l ++ chain_events c) (sym q.1),
            ([], refl),
          ),
        )

    module _ (g : List ℕ) (among : Memᴰ g (groups limit bs)) (mine : Memᴰ i g) where
      -- a body of the group is that of a block that shares it
      member : (c : Body) → Memᴰ c (of_group g)
          → (d : Block) × SameGroup limit bs i d × (body_of multiplier d ≡ c)
      member c h =
          let r = block_of g among c h in (
            get_or bs r.0 nowhere,
            (g, among, mine, (r.0, r.1, at_place bs r.0 nowhere r.2)),
            r.3,
          )

      labels : (k : ℕ) (d : Code) → LabelIn k (group_code (of_group g)) d
          → (e : Block) × SameGroup limit bs i e × (block_key e ≡ k)
          × ((rest : Code)
          × (d ≡ nl ⨾ (block_code (map body_key (of_group g)) (body_of multiplier e) ⧺ rest)))
      labels k d p =
          let r = in_group_code (of_group g) p in
          let s = member r.0 r.1 in (
            s.0,
            s.1,
            sym (key_of F s.0) ∙ ap body_key s.2 ∙ r.2,
            (
              r.3.0,
              subst (λ c. d ≡ nl ⨾ (block_code (map body_key (of_group g)) c ⧺ r.3.0))
                  (sym s.2) r.3.1,
            ),
          )

      -- from the function of the group
      grouped : (ts : List Top) (n : ℕ) → get_elem? (map body_key (of_group g)) n ≡ some (block_key b)
          → SameGroup limit bs i b → (r : Result) (es : List Event)
          → From ts (group_code (of_group g)) (some n) (group_code (of_group g)) (at_start z) r
          (counted es) → Claimed r es
      unfolding group_code
      grouped ts n e h r es x = go (past_switch e (past_gap (past_head z x)))
        where
          ks : List ℕ
          ks = map body_key (of_group g)

          at : (d : Code) → LabelIn (block_key b) (group_code (of_group g)) d
              → From ts (group_code (of_group g)) (some n) d (in_function z) r (counted es)
              → Claimed r es
          at d p (inl q) = early h r es q
          at d p (inr q) =
              claimed r es q.1 q.2
              (from_label step multiplier (SameGroup limit bs i) ts (group_code (of_group g)) ks
              (means ks) covered (logs ks) labels q.3 0 (block_key b) m p ready)

          go : Early r (counted es)
              ⊎ ((d : Code) × LabelIn (block_key b) (group_code (of_group g)) d
              × From ts (group_code (of_group g)) (some n) d (in_function z) r (counted es))
              → Claimed r es
          go (inl q) = early h r es q
          go (inr q) = at q.0 q.1 q.2

    -- from the function of a lone block
    lone : (ts : List Top) → SameGroup limit bs i b → (r : Result) (es : List Event)
        → From ts (with_locals (block_code [] (body_of multiplier b))) none
        (with_locals (block_code [] (body_of multiplier b))) (at_start z) r (counted es)
        → Claimed r es
    lone ts h r es x = go (past_head z x)
      where
        f' : Code
        f' = with_locals (block_code [] (body_of multiplier b))

        go : From ts f' none (block_code [] (body_of multiplier b)) (in_function z) r (counted es)
            → Claimed r es
        go (inl q) = early h r es q
        go (inr q) =
            claimed r es q.1 q.2
            (from_block step multiplier (SameGroup limit bs i) ts f' [] (means []) covered (logs [])
            (λ k d p. absurd (none_in_lone (body_of multiplier b) p)) b h q.3 0 (block_key b) m
            refl ready)

    -- a body with the block's key is the block's
    own_body : (g : List ℕ) → Memᴰ g (groups limit bs) → (c : Body) → Memᴰ c (of_group g)
        → body_key c ≡ block_key b → Memᴰ i g × (body_of multiplier b ≡ c)
    own_body g among c h k =
        let r = block_of g among c h in
        let at = found_at bs i nowhere b found in
        let same : r.0
        ≡ i =
        same_place F r.0 i r.2 at.0
        (ap body_key r.3 ∙ k ∙ ap block_key (sym at.1) ∙ sym (key_of F _)) in (
          mathlib.Core.List.Memᴰ.cast (sym same) r.1,
          ap (body_of multiplier) (sym at.1)
              ∙ ap (λ (j : ℕ). body_of multiplier (get_or bs j nowhere)) (sym same) ∙ r.3,
        )

    -- C gets on from the function of the group, and from that of a lone block
    module _ (g : List ℕ) (among : Memᴰ g (groups limit bs)) (mine : Memᴰ i g) where
      found_label : (k : ℕ) → T (isAmong k (map body_key (of_group g)))
          → (e : Block) × SameGroup limit bs i e
          × ((rest : Code)
          × LabelIn k (group_code (of_group g))
          (nl ⨾ (block_code (map body_key (of_group g)) (body_of multiplier e) ⧺ rest)))
      found_label k t =
          let c = mathlib.Core.List.Memᴰ.of_map body_key (of_group g) (among→mem k (map body_key (of_group g)) t) in
          let r = to_label c.0 (of_group g) c.1 in
          let s = member g among mine c.0 c.1 in (
            s.0,
            s.1,
            (
              r.0,
              subst (λ e. LabelIn k (group_code (of_group g))
                  (nl ⨾ (block_code (map body_key (of_group g)) e ⧺ r.0))) (sym s.2)
                  (subst (λ j. LabelIn j (group_code (of_group g))
                  (nl ⨾ (block_code (map body_key (of_group g)) c.0 ⧺ r.0))) c.2 r.1),
            ),
          )

      grouped_gets : (ts : List Top) (j : ℕ)
          → get_elem? (map body_key (of_group g)) j ≡ some (block_key b) → (n : ℕ)
          → Gets ts (group_code (of_group g)) (some j) n (group_code (of_group g)) (at_start z)
      unfolding group_code
      grouped_gets ts j e n =
          let ks : List ℕ = map body_key (of_group g) in
          let t =
          found_label (block_key b) (among_key (block_key b) ks (in_list ks j (block_key b) e)) in
          gets_head n z
          (gets_gap n (in_function z)
          (gets_case n (in_function z) e t.2.1
          (gets_gap n (in_function z)
          (gets step multiplier (SameGroup limit bs i) ts (group_code (of_group g)) (some j) ks
          (means ks) covered (logs ks) found_label n 0 t.0 t.1 t.2.0 (in_function z) m
          ready))))

    lone_gets : (ts : List Top) → SameGroup limit bs i b → (n : ℕ)
        → Gets ts (with_locals (block_code [] (body_of multiplier b))) none n
        (with_locals (block_code [] (body_of multiplier b))) (at_start z)
    lone_gets ts h n =
        let f : Code = with_locals (block_code [] (body_of multiplier b)) in
        gets_head n z
        (subst (λ c. Gets ts f none n c (in_function z))
        (append_end (block_code [] (body_of multiplier b)))
        (gets step multiplier (SameGroup limit bs i) ts f none [] (means []) covered (logs [])
        (λ k t. absurd t) n 0 b h end (in_function z) m ready))

    module _ (u : TranslationUnit) (made : Memᴰ u (units multiplier limit max bs)) (r : Result)
        (es : List Event) where
      -- the call of a forwarder finds the function of the block's group
      forwarded : (g : List ℕ) → Memᴰ g (groups limit bs) → (a : Body)
          → Memᴰ a (of_group g) → (n : ℕ)
          → get_elem? (map body_key (of_group g)) n ≡ some (block_key b)
          → Memᴰ i g → (h : Code) → Memᴰ (function (group (body_key a)) h) u.tree
          → From u.tree h (parameter n) h (at_start z) r (counted es) → Claimed r es
      forwarded g among a first n e mine h stands x =
          let q =
          in_group (function (group (body_key a)) h) tt
          (in_units multiplier limit max f bs u made _ stands) in
          let p = group_function (body_key a) h (of_group q.0) q.2 in
          let same : q.0 ≡ g = one_group q.0 g q.1 among p.0 a p.1 first p.2 in
          grouped g among mine u.tree n e (g, among, mine, (i, mine, found)) r es
          (subst (λ c. From u.tree c (some n) c (at_start z) r (counted es))
          (p.3 ∙ ap (λ l. group_code (of_group l)) same)
          (subst (λ q. From u.tree h q h (at_start z) r (counted es))
          (fits g among n (block_key b) e) x))

      entered : (g : List ℕ) → Memᴰ g (groups limit bs) → (c : Code)
          → Alone (block_key b) c (of_group g) ⊎ Forwards (block_key b) c (of_group g)
          → From u.tree c none c (at_start z) r (counted es) → Claimed r es
      entered g among c (inl a) x =
          let here : Memᴰ a.0 (of_group g) =
          subst (λ l. Memᴰ a.0 l) (sym a.1) (mathlib.Core.List.Memᴰ.head refl) in
          let o = own_body g among a.0 here a.2 in
          lone u.tree (g, among, o.0, (i, o.0, found)) r es
          (subst (λ d. From u.tree d none d (at_start z) r (counted es))
          (a.3 ∙ ap (λ d. with_locals (block_code [] d)) (sym o.1)) x)
      entered g among c (inr a) x =
          go (past_forwarder
          (subst (λ d. From u.tree d none d (at_start z) r (counted es)) a.3.1 x))
        where
          mine : Memᴰ i g
          mine =
              let k =
              mathlib.Core.List.Memᴰ.of_map body_key (of_group g)
              (in_list (map body_key (of_group g)) a.3.0 (block_key b) a.3.2) in
              (own_body g among k.0 k.1 k.2).0

          go : Early r (counted es)
              ⊎ ((h : Code) × Memᴰ (function (group (body_key a.0)) h) u.tree
              × From u.tree h (parameter a.3.0) h (at_start z) r (counted es)) → Claimed r es
          go (inl q) = early (g, among, mine, (i, mine, found)) r es q
          go (inr q) = forwarded g among a.0 a.1 a.3.0 a.3.2 mine q.0 q.1 q.2

      meant : (c : Code) → Memᴰ (function (block (block_key b)) c) u.tree → (xs : List Bool)
          → Executes u.tree c z xs es r → Claimed r es
      meant c stands xs x =
          let q =
          in_group (function (block (block_key b)) c) tt
          (in_units multiplier limit max f bs u made _ stands) in
          entered q.0 q.1 c (block_function (block_key b) c (of_group q.0) q.2)
          (inr (xs, es, refl, x))

pub execution_means : (multiplier limit max : ℕ) (f : List ℕ)
    → ExecutionMeans multiplier limit max f
unfolding ExecutionMeans
execution_means multiplier limit max f bs accepted i b e u made c stands covered step z m interprets
    sound agrees xs es y v x =
    let q =
    meant multiplier limit max f bs accepted i b e covered step z m interprets sound agrees u
    made (returned y v) es c stands xs x in (
      q.0,
      q.1,
      q.3.0,
      q.2,
      q.3.1,
      sym
          (q.4.2 ∙ ap (λ l. counted es ++ l) q.4.1 ∙ append_nil (counted es)),
    )

pub execution_begins : (multiplier limit max : ℕ) (f : List ℕ)
    → ExecutionBegins multiplier limit max f
unfolding ExecutionBegins
execution_begins multiplier limit max f bs accepted i b e u made c stands covered step z m
    interprets sound agrees xs es x =
    let q =
    meant multiplier limit max f bs accepted i b e covered step z m interprets sound agrees u
    made underway es c stands xs x in
    (q.0, q.1, q.2, (q.4.3.0, q.4.0, q.4.3.1, q.4.2))

pub execution_gets_on : (multiplier limit max : ℕ) (f : List ℕ)
    → ExecutionGetsOn multiplier limit max f
unfolding ExecutionGetsOn units_by emit_c_chunked
execution_gets_on multiplier limit max f bs accepted i b e u made c stands covered step z m
    interprets sound agrees n =
    let F' : File = F multiplier limit max f bs accepted in
    let gs : List (List Body) = map (bodies_of (bodies F')) (groups limit bs) in
    let q =
    whole_cut gs max (last_unit_end (bodies F')) (end_foreign (bodies F')) gs (λ g h. h) unit_head
    0 (whole_none gs unit_head head_foreign) u made (function (block (block_key b)) c) tt
    stands in
    let r = mathlib.Core.List.Memᴰ.of_map (bodies_of (bodies F')) (groups limit bs) q.1 in
    go r.0 r.1
    (block_function (block_key b) c (bodies_of (bodies F') r.0)
    (subst (λ g. Memᴰ (function (block (block_key b)) c) (emit_group g)) (sym r.2)
    q.2))
    (λ s h. q.3 s (subst (λ g. Memᴰ s (emit_group g)) r.2 h))
  where
    code : List ℕ → Code
    code g = group_code (of_group multiplier limit max f bs accepted g)

    go : (g : List ℕ) → Memᴰ g (groups limit bs)
        → Alone (block_key b) c (of_group multiplier limit max f bs accepted g)
        ⊎ Forwards (block_key b) c (of_group multiplier limit max f bs accepted g)
        → ((s : Top) → Memᴰ s (emit_group (of_group multiplier limit max f bs accepted g))
        → Memᴰ s u.tree) → Gets u.tree c none n c (at_start z)
    go g among (inl a) there =
        let here : Memᴰ a.0 (of_group multiplier limit max f bs accepted g) =
        subst (λ l. Memᴰ a.0 l) (sym a.1) (mathlib.Core.List.Memᴰ.head refl) in
        let o =
        own_body multiplier limit max f bs accepted i b e covered step z m interprets sound
        agrees g among a.0 here a.2 in
        subst (λ d. Gets u.tree d none n d (at_start z))
        (sym (a.3 ∙ ap (λ d. with_locals (block_code [] d)) (sym o.1)))
        (lone_gets multiplier limit max f bs accepted i b e covered step z m interprets sound agrees
        u.tree (g, among, o.0, (i, o.0, e)) n)
    go g among (inr a) there =
        let k =
        mathlib.Core.List.Memᴰ.of_map body_key (of_group multiplier limit max f bs accepted g)
        (in_list (map body_key (of_group multiplier limit max f bs accepted g)) a.3.0
        (block_key b) a.3.2) in
        let o =
        own_body multiplier limit max f bs accepted i b e covered step z m interprets sound
        agrees g among k.0 k.1 k.2 in
        subst (λ d. Gets u.tree d none n d (at_start z)) (sym a.3.1)
        (gets_forwarder n z (there _ a.2)
        (subst (λ q. Gets u.tree (code g) q n (code g) (at_start z))
        (sym (fits multiplier limit max f bs accepted g among a.3.0 (block_key b) a.3.2))
        (grouped_gets multiplier limit max f bs accepted i b e covered step z m interprets sound
        agrees g among o.0 u.tree a.3.0 a.3.2 n)))

maps : {A B : Type 0} (f : B → ℕ) (g : A → B) (xs : List A)
    → map f (map g xs) ≡ map (λ x. f (g x)) xs
maps f g [] = refl
maps f g (x ∷ xs) = ap (λ l. f (g x) ∷ l) (maps f g xs)

-- a group has no key twice
group_keys_lem : (multiplier limit max : ℕ) (f : List ℕ) (bs : List Block)
    (accepted : parse f ≡ Parsed.accepted bs) (g : List ℕ) → Memᴰ g (groups limit bs)
    → Distinct (map body_key (of_group multiplier limit max f bs accepted g))
unfolding bodies_of
group_keys_lem multiplier limit max f bs accepted g m =
    subst Distinct (sym (maps body_key body g))
    (keys_distinct key g
    (λ i j p q e. same_place F' i j (inside i p) (inside j q) (sym (is i p) ∙ e ∙ is j q))
    (group_distinct g (groups limit bs) m (λ i p. groups_once limit bs i (inside i p))))
  where
    F' : File
    F' = F multiplier limit max f bs accepted

    body : ℕ → Body
    body i = get_or (bodies F') i default_body

    key : ℕ → ℕ
    key i = body_key (body i)

    inside : (i : ℕ) → Memᴰ i g → i < length bs
    inside i p = group_inside limit bs g m i p

    is : (i : ℕ) → Memᴰ i g → key i ≡ body_key (body_of multiplier (get_or bs i nowhere))
    is i p = ap body_key (map_at (body_of multiplier) bs i nowhere default_body (inside i p))

pub labels_plain : (multiplier limit max : ℕ) (f : List ℕ) → LabelsPlain multiplier limit max f
unfolding LabelsPlain
labels_plain multiplier limit max f bs accepted u made h c (inl stands) k d p =
    let q =
    in_group multiplier limit max f bs accepted (function (block h) c) tt
    (in_units multiplier limit max f bs u made _ stands) in
    absurd (go (block_function h c (of_group multiplier limit max f bs accepted q.0) q.2))
  where
    go : {g : List Body} → Alone h c g ⊎ Forwards h c g → ⊥
    go (inl a) = none_lone a.0 (subst (λ x. LabelAt k x d) a.3 p)
    go (inr a) = none_forwarder (body_key a.0) a.3.0 (subst (λ x. LabelAt k x d) a.3.1 p)
labels_plain multiplier limit max f bs accepted u made h c (inr stands) k d p =
    let q =
    in_group multiplier limit max f bs accepted (function (group h) c) tt
    (in_units multiplier limit max f bs u made _ stands) in
    let g : List Body = of_group multiplier limit max f bs accepted q.0 in
    let r = group_function h c g q.2 in
    let at : LabelIn k (group_code g) d = plain_group g (subst (λ x. LabelAt k x d) r.3 p) in (
      subst (λ x. LabelIn k x d) (sym r.3) at,
      λ e s. once_group g (group_keys_lem multiplier limit max f bs accepted q.0 q.1) at
          (subst (λ x. LabelIn k x e) r.3 s),
    )

-- a unit has one function of a group
one_function : (multiplier limit max : ℕ) (f : List ℕ) (bs : List Block)
    → parse f ≡ Parsed.accepted bs → (u : TranslationUnit)
    → Memᴰ u (units multiplier limit max bs)
    → (k : ℕ) (g h : Code) → Memᴰ (function (group k) g) u.tree
    → Memᴰ (function (group k) h) u.tree → h ≡ g
one_function multiplier limit max f bs accepted u made k g h m n =
    let p =
    in_group multiplier limit max f bs accepted (function (group k) g) tt
    (in_units multiplier limit max f bs u made _ m) in
    let q =
    in_group multiplier limit max f bs accepted (function (group k) h) tt
    (in_units multiplier limit max f bs u made _ n) in
    let a = group_function k g (of_group multiplier limit max f bs accepted p.0) p.2 in
    let b = group_function k h (of_group multiplier limit max f bs accepted q.0) q.2 in
    let same : q.0
    ≡ p.0 =
    one_group multiplier limit max f bs accepted q.0 p.0 q.1 p.1 b.0 a.0
    b.1 a.1 (b.2 ∙ sym a.2) in
    b.3 ∙ ap (λ l. group_code (of_group multiplier limit max f bs accepted l)) same ∙ sym a.3

pub execution_determined : (multiplier limit max : ℕ) (f : List ℕ)
    → ExecutionDetermined multiplier limit max f
unfolding ExecutionDetermined LabelsPlain
execution_determined multiplier limit max f bs accepted u made h c stands z xs es r x xs' es' r'
    x' =
    alike u.tree
    (λ k g m. (
      λ j d e p q. (labels_plain multiplier limit max f bs accepted u made k g (inr m) j d
          (label_at p)).1 e q,
      λ g' m'. one_function multiplier limit max f bs accepted u made k g g' m m',
    ))
    (λ j d e p q. (labels_plain multiplier limit max f bs accepted u made h c (inl stands) j d
    (label_at p)).1 e q) x x'
