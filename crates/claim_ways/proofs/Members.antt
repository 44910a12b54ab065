-- The groups of an accepted file as the ways meet them: members, counts, keys.
use Prim.Native.Nat.{ℕ, zero, suc, ◌+◌, ◌%◌, ◌≤◌, ◌<◌}
use mathlib.Core.Path.{◌≡◌, refl, sym, ap, ap₂, ◌∙◌, subst}
use mathlib.Core.Bool.{Bool, cond}
use mathlib.Core.List.Memᴰ
use mathlib.Core.List.{List, [], ◌∷◌, map, Memᴰ}
use mathlib.Core.Option.{Option}
use native.Mathlib.Omega.{arith}
use lib.ListN.{length, get_or}
use Rattle.file_blocks.specs.Parse.{Block, Parsed, parse, block_key}
use Rattle.plan_groups.specs.Plan.{groups}
use Rattle.plan_groups.proofs.Components.{counts_of}
use Rattle.plan_groups.proofs.Cutting.{instructions}
use Rattle.plan_groups.proofs.GroupLaws.{group_limit, group_inside}
use Rattle.base_lists.proofs.Places.{map_at, member_at, place_of}
use Rattle.lower_forms.specs.Forms.{Body}
use Rattle.lower_units.specs.Block.{body_key}
use Rattle.lower_units.specs.Units.{default_body, bodies_of}
use Rattle.claim_ways.proofs.Faithful.{Faithful}
use Rattle.claim_ways.proofs.Bounded.{Member, total}
use Rattle.claim_ways.proofs.Guarded.{Apart}
use Rattle.claim_ways.proofs.File.{block_even, block_filled, one_key}
use Rattle.claim_ways.proofs.Functions.{Many}
use Rattle.file_blocks.proofs.Nowhere.{nowhere}

-- what the groups of an accepted file have
pub record Good (limit : ℕ) (bodies g : List Body) : Type 0 where
  pub members : (b : Body) → Memᴰ b g → Member b
  pub inside : (b : Body) → Memᴰ b g → Memᴰ b bodies
  pub small : Many g → total g ≤ limit

-- a file that is accepted, the forms of its blocks, and the limit of the groups
pub record File : Type 0 where
  pub hash_of : Block → Option ℕ
  pub body_of : Block → Body
  pub faithful : Faithful hash_of body_of
  pub bytes : List ℕ
  pub bs : List Block
  pub accepted : parse bytes ≡ Parsed.accepted bs
  pub limit : ℕ

module _ (F : File) where
  open F use {hash_of, body_of, faithful, bytes, bs, accepted, limit}

  -- the bodies of the file's blocks
  abbrev pub bodies : List Body
  bodies = map body_of bs

  pub key_of : (b : Block) → body_key (body_of b) ≡ block_key b
  key_of b = ap₂ (λ (a : ℕ) (t : Bool). a + cond t 1 0) (faithful.addr b) (faithful.thumb b)

  -- the members of a group are blocks of the file
  pub member_of : (g : List ℕ) → Memᴰ g (groups limit bs) → (b : Body)
      → Memᴰ b (bodies_of bodies g)
      → (i : ℕ) × Memᴰ i g × (i < length bs) × (body_of (get_or bs i nowhere) ≡ b)
  unfolding bodies_of
  member_of g m b n =
      let r = Memᴰ.of_map (λ (i : ℕ). get_or bodies i default_body) g n in
      let inside : r.0 < length bs = group_inside limit bs g m r.0 r.1 in
      (r.0, r.1, inside, sym (map_at body_of bs r.0 nowhere default_body inside) ∙ r.2)

  pub is_member : (i : ℕ) → i < length bs → Member (body_of (get_or bs i nowhere))
  is_member i h =
      record {
        even = ap (λ (a : ℕ). a % 2) (faithful.addr (get_or bs i nowhere))
            ∙ block_even bytes bs accepted i nowhere h;
        filled =
            omega (
              arith,
              faithful.count (get_or bs i nowhere),
              block_filled bytes bs accepted i
                  nowhere h,
            );
        whole = faithful.whole (get_or bs i nowhere);
      }

  in_bodies : (i : ℕ) → i < length bs → Memᴰ (body_of (get_or bs i nowhere)) bodies
  in_bodies i h = Memᴰ.map body_of (member_at bs i nowhere h)

  -- the counts of the plan are those of the bodies
  count_at : (cs : List Block) (i : ℕ)
      → (get_or (map body_of cs) i default_body).count ≡ get_or (counts_of cs) i 0
  count_at [] i = refl
  count_at (c ∷ cs) zero = faithful.count c
  count_at (c ∷ cs) (suc i) = count_at cs i

  total_of : (g : List ℕ) → total (bodies_of bodies g) ≡ instructions (counts_of bs) g
  unfolding bodies_of instructions
  total_of [] = refl
  total_of (i ∷ g) = omega (arith, count_at bs i, total_of g)

  pub several : (g : List ℕ) → Many (bodies_of bodies g) → 2 ≤ length g
  unfolding bodies_of
  several [] v = absurd v
  several (i ∷ []) v = absurd v
  several (i ∷ j ∷ g) v = omega arith

  pub one : (g : List ℕ) (b : Body) → bodies_of bodies g ≡ b ∷ [] → length g ≡ 1
  unfolding bodies_of
  one [] b e = absurd (let z : ◌≡◌ {A = ℕ} 0 1 = ap length e in omega arith)
  one (i ∷ []) b e = refl
  one (i ∷ j ∷ g) b e = absurd (let z : suc (suc (length (bodies_of bodies g))) ≡ 1 =
      ap length e in omega arith)

  pub good : (g : List ℕ) → Memᴰ g (groups limit bs) → Good limit bodies (bodies_of bodies g)
  good g m =
      record {
        members = λ b n. let r = member_of g m b n in subst Member r.3 (is_member r.0 r.2);
        inside = λ b n. let r = member_of g m b n in
            subst (λ c. Memᴰ c bodies) r.3 (in_bodies r.0 r.2);
        small = λ v. omega (arith, total_of g, group_limit limit bs g m (several g v));
      }

  -- a block of the file by its place
  body_at : (b : Body) → Memᴰ b bodies
      → (i : ℕ) × (i < length bs) × (body_of (get_or bs i nowhere) ≡ b)
  body_at b m =
      let r = Memᴰ.of_map body_of bs m in
      let p = place_of bs nowhere r.0 r.1 in
      (p.0, p.1, ap body_of p.2 ∙ r.2)

  -- one key, one place
  pub same_place : (i j : ℕ) → i < length bs → j < length bs
      → body_key (body_of (get_or bs i nowhere)) ≡ body_key (body_of (get_or bs j nowhere)) → i ≡ j
  same_place i j h l e = one_key bytes bs accepted nowhere i j h l (sym (key_of _) ∙ e ∙ key_of _)

  pub apart : Apart bodies
  apart b c m n e =
      let r = body_at b m in
      let s = body_at c n in
      let same : r.0
      ≡ s.0 =
      same_place r.0 s.0 r.1 s.1
      (ap body_key r.2 ∙ e ∙ sym (ap body_key s.2)) in
      sym r.2 ∙ ap (λ (i : ℕ). body_of (get_or bs i nowhere)) same ∙ s.2
