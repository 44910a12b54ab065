-- Each block of an accepted file has one function, in the unit where its group is, and a way from
-- it through the text of the records that it prints.
use Prim.Native.Nat.{ℕ, ◌+◌, ◌≤◌, ◌<◌}
use mathlib.Core.Path.{◌≡◌, refl, sym, ap, ap₂, ◌∙◌, subst}
use mathlib.Core.List.Memᴰ
use mathlib.Core.List.{List, [], ◌∷◌, map, flatten, Memᴰ}
use mathlib.Core.Option.{Option}
use native.Mathlib.Omega.{arith}
use native.Mathlib.Decide.{ℕ_discrete}
use lib.ListN.{length, get_or}
use Rattle.file_blocks.specs.Parse.{Block, block_key}
use Rattle.plan_groups.specs.Plan.{groups}
use Rattle.plan_groups.proofs.GroupLaws.{groups_once, group_inside, group_of}
use Rattle.base_lists.proofs.Places.{map_at, found_at}
use Rattle.base_lists.specs.Lists.{count}
use Rattle.base_lists.proofs.Counts.{count_append, count_here, count_other}
use Rattle.c_tree.specs.Stmt.{block, function}
use Rattle.lower_forms.specs.Forms.{Body}
use Rattle.lower_forms.proofs.RecordCount.{record_counts}
use Rattle.lower_units.specs.Block.{body_key}
use Rattle.lower_units.specs.Units.{emit_group, unit_head, last_unit_end, default_body, bodies_of}
use Rattle.lower_units.specs.Units.{emit_c_chunked, units_by}
use Rattle.claim_ways.proofs.Faithful.{Faithful}
use Rattle.claim_ways.specs.Claim.{times_carried, all_units}
use Rattle.claim_ways.specs.Applies.{function_count, body_events, AppliesToBlock, AppliesOf}
use Rattle.claim_ways.proofs.Members.{File, bodies, key_of, is_member, same_place}
use Rattle.claim_ways.proofs.Entered.{first_carried, entered}
use Rattle.claim_ways.proofs.Pieces.{Part, group_part, in_part, in_groups, no_end}
use Rattle.claim_ways.proofs.Pieces.{functions_cut, group_count}
use Rattle.file_blocks.proofs.Nowhere.{nowhere}

count_none : (k : ℕ) → count k [] ≡ 0
unfolding count
count_none k = refl

-- a number stands in a list as often as its image in the list's
count_map : (key : ℕ → ℕ) (i : ℕ) (xs : List ℕ) → ((j : ℕ) → Memᴰ j xs → key i ≡ key j → i ≡ j)
    → count (key i) (map key xs) ≡ count i xs
count_map key i [] apart = count_none (key i) ∙ sym (count_none i)
count_map key i (j ∷ xs) apart =
    let more : count (key i) (map key xs) ≡ count i xs =
    count_map key i xs (λ x m. apart x (Memᴰ.tail m)) in
    elim (ℕ_discrete i j) [
      | yes e ↦
          subst (λ (x : ℕ). count (key i) (key x ∷ map key xs) ≡ count i (x ∷ xs)) e
          (count_here (key i) (map key xs) ∙ ap (λ (n : ℕ). 1 + n) more ∙ sym (count_here i xs))
      | no d ↦
          count_other (key i) (key j) (map key xs) (λ e. d (apart j (Memᴰ.head refl) e)) ∙ more
          ∙ sym (count_other i j xs d)
    ]

module _ (F : File) (i : ℕ) (h : i < length F.bs) where
  open F use {body_of, faithful, bs, limit}

  -- the key of a block, as the units have it
  abbrev key : ℕ → ℕ
  key j = body_key (body_of (get_or bs j nowhere))

  body_is : (j : ℕ) → j < length bs → get_or (bodies F) j default_body ≡ body_of (get_or bs j nowhere)
  body_is j l = map_at body_of bs j nowhere default_body l

  keys_of : (g : List ℕ) → ((j : ℕ) → Memᴰ j g → j < length bs)
      → map body_key (bodies_of (bodies F) g) ≡ map key g
  unfolding bodies_of
  keys_of [] inside = refl
  keys_of (j ∷ g) inside =
      ap₂ (λ (k : ℕ) (ks : List ℕ). k ∷ ks)
      (ap body_key (body_is j (inside j (Memᴰ.head refl))))
      (keys_of g (λ x m. inside x (Memᴰ.tail m)))

  -- the key of block i stands in a group as often as the block
  count_key : (g : List ℕ) → ((j : ℕ) → Memᴰ j g → j < length bs)
      → count (key i) (map body_key (bodies_of (bodies F) g)) ≡ count i g
  count_key g inside = ap (count (key i)) (keys_of g inside)
      ∙ count_map key i g (λ j m e. same_place F i j h (inside j m) e)

  in_groups_lem : (gs : List (List ℕ))
      → ((g : List ℕ) → Memᴰ g gs → (j : ℕ) → Memᴰ j g → j < length bs)
      → in_groups (key i) (map (bodies_of (bodies F)) gs) ≡ count i (flatten gs)
  unfolding flatten count
  in_groups_lem [] inside = refl
  in_groups_lem (g ∷ gs) inside =
      let one = group_count (key i) (bodies_of (bodies F) g)
      ∙ count_key g (inside g (Memᴰ.head refl)) in
      let more = in_groups_lem gs (λ x m. inside x (Memᴰ.tail m)) in
      omega (arith, one, more, count_append i g (flatten gs))

  module _ (max : ℕ) where
    one_function : function_count (key i) (all_units body_of limit max bs) ≡ 1
    unfolding all_units units_by emit_c_chunked
    one_function =
        let none : function_count (key i) unit_head ≡ 0 = refl in
        functions_cut (key i) max (last_unit_end (bodies F)) (no_end (key i) (bodies F))
        (map (bodies_of (bodies F)) (groups limit bs)) unit_head 0
        ∙ omega (
          arith,
          none,
          in_groups_lem (groups limit bs) (group_inside limit bs),
          groups_once limit
              bs i h,
        )

    abbrev mine : List ℕ
    mine = (group_of limit bs i h).0

    part : Part (emit_group (bodies_of (bodies F) mine)) (units_by body_of limit max bs)
    unfolding units_by emit_c_chunked
    part =
        group_part max (last_unit_end (bodies F)) (bodies_of (bodies F) mine)
        (map (bodies_of (bodies F)) (groups limit bs)) unit_head 0
        (Memᴰ.map (bodies_of (bodies F)) (group_of limit bs i h).1)

    here : Memᴰ (body_of (get_or bs i nowhere)) (bodies_of (bodies F) mine)
    unfolding bodies_of
    here =
        Memᴰ.cast (sym (body_is i h))
        (Memᴰ.map (λ (j : ℕ). get_or (bodies F) j default_body) (group_of limit bs i h).2)

    filled : 1 ≤ record_counts (body_of (get_or bs i nowhere)).forms
    filled = let m = is_member F i h in omega (arith, m.filled, m.whole)

    pub applies_to : (b : Block) → get_or bs i nowhere ≡ b → AppliesToBlock body_of limit max bs i b
    unfolding all_units
    applies_to b e =
        let w =
        entered (all_units body_of limit max bs) (body_of (get_or bs i nowhere))
        (bodies_of (bodies F) mine) here
        (λ t m. in_part t (emit_group (bodies_of (bodies F) mine)) (units_by body_of limit max bs) part
        m) in
        let k : key i ≡ block_key b = key_of F (get_or bs i nowhere) ∙ ap block_key e in
        record {
          single = subst (λ n. function_count n (all_units body_of limit max bs) ≡ 1) k one_function;
          members = mine;
          grouped = (group_of limit bs i h).1;
          among = (group_of limit bs i h).2;
          unit = part.unit;
          made = part.made;
          before = part.before;
          after = part.after;
          piece = part.piece;
          code = w.0;
          stands =
              subst (λ n. Memᴰ (function (block n) w.0)
              (emit_group (bodies_of (bodies F) mine))) k w.1;
          answers = w.2.0;
          events = w.2.1;
          way = w.2.2;
          through = w.2.3 ∙ ap (λ d. body_events (body_of d)) e;
          first =
              subst (λ n. 1 ≤ times_carried n 0 w.2.1) k
              (first_carried (body_of (get_or bs i nowhere)) w.2.1 filled w.2.3);
        }

pub applies_of : (hash_of : Block → Option ℕ) (body_of : Block → Body) → Faithful hash_of body_of
    → (limit max : ℕ) (f : List ℕ) → AppliesOf body_of limit max f
unfolding AppliesOf
applies_of hash_of body_of faithful limit max f bs accepted i b e =
    let F : File =
    record {
      hash_of = hash_of;
      body_of = body_of;
      faithful = faithful;
      bytes = f;
      bs = bs;
      accepted = accepted;
      limit = limit;
    } in
    let at = found_at bs i nowhere b e in
    applies_to F i at.0 max b at.1
