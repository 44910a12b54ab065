-- Whether a key is among those of a group's members, by its place there: keys do not fall along a
-- group. Assumes nothing.
use Prim.Native.Nat.{ℕ, zero, suc, suc-le-suc, ◌+◌, ◌≤◌, ◌<◌}
use mathlib.Core.Path.{◌≡◌, refl, sym, ◌∙◌}
use mathlib.Core.Bool.{Bool, true, false, ◌||◌, true≢false}
use mathlib.Core.List.{List, [], ◌∷◌}
use native.Mathlib.Decide.{dec_lt}
use native.Mathlib.Nat.{le_refl, le_of_suc-le-suc}
use native.Mathlib.Omega.{arith}
use borrow.Author.Tests.{eq-eqb, ne_eqb, eqb-true, eqb-false}
use lib.Dec.{eqb}
use lib.ListN.{length, get_or, length-map}
use Rattle.base_lists.specs.Lists.{among}
use Rattle.base_lists.proofs.Order.{order_at}
use Rattle.base_lists.proofs.Places.{map_at}
use Rattle.file_blocks.specs.Parse.{blocks_of}
use Rattle.file_keys.specs.Order.{block_keys}
use Rattle.plan_groups.specs.Plan.{groups}
use Rattle.file_keys.proofs.Sorted.{NoFall}
use Rattle.plan_groups.proofs.GroupLaws.{group_sorted}
use Rattle.plan_members.specs.Members.{members_of, group_keys}
use Rattle.plan_members.specs.Lookup.{KeyBetween, SaysAt}
use Rattle.plan_members.proofs.Places.{list_at, has_member}

or_right : (b c : Bool) → c ≡ true → (b || c) ≡ true
or_right true c e = refl
or_right false c e = e

-- a number that stands at a place
among_at : (ks : List ℕ) (key k : ℕ) → k < length ks → get_or ks k 0 ≡ key → among key ks ≡ true
among_at [] key k h e = absurd (omega arith)
among_at (j ∷ js) key zero h e = rw (eq-eqb key j (sym e)) refl
among_at (j ∷ js) key (suc k) h e =
    or_right (eqb key j) _ (among_at js key k (le_of_suc-le-suc h) e)

-- one that stands at none
among_none : (ks : List ℕ) (key : ℕ) → ((k : ℕ) → k < length ks → get_or ks k 0 ≡ key → ⊥)
    → among key ks ≡ false
among_none [] key nowhere = refl
among_none (j ∷ js) key nowhere =
    rw (ne_eqb key j (λ e. nowhere 0 (omega arith) (sym e)))
    (among_none js key (λ k h e. nowhere (suc k) (suc-le-suc h) e))

-- a key that is compared with that at a place, and a place past the last
pub says_here : (ks : List ℕ) (key k x : ℕ) → k < length ks → x ≡ get_or ks k 0
    → SaysAt ks key k (eqb x key)
says_here ks key k x h e =
    record {
      here = λ t. (h, sym e ∙ eqb-true _ _ t);
      absent = λ t _ same. eqb-false _ _ t (e ∙ same);
    }

pub says_past : (ks : List ℕ) (key k : ℕ) → length ks ≤ k → SaysAt ks key k false
says_past ks key k h =
    record { here = λ t. absurd (true≢false (sym t)); absent = λ _ l. absurd (omega arith) }

-- numbers that do not fall, by their places
abbrev pub NeverFall : List ℕ → Type 0
NeverFall ks = (a b : ℕ) → a < b → b < length ks → get_or ks a 0 ≤ get_or ks b 0

-- the same for places that may be one
no_fall : (ks : List ℕ) → NeverFall ks → (a b : ℕ) → a ≤ b → b < length ks
    → get_or ks a 0 ≤ get_or ks b 0
no_fall ks ordered a b l h =
    elim (dec_lt a b) [
      | yes c ↦ ordered a b c h
      | no d ↦ (let same : a ≡ b = omega arith in rw same (le_refl (get_or ks b 0)))
    ]

-- the keys of a group's members do not, however the file orders its blocks
pub keys_sorted : (limit : ℕ) (f : List ℕ) (g : ℕ) → NeverFall (group_keys limit f g)
keys_sorted limit f g a b l h =
    let is : List ℕ = members_of limit (blocks_of f) g in
    let key : ℕ → ℕ = λ i. get_or (block_keys f) i 0 in
    let inside : b < length is = omega (arith, length-map is key) in
    let listed = list_at (groups limit (blocks_of f)) g
    (has_member (groups limit (blocks_of f)) g (omega arith)) in
    omega (
      arith,
      map_at key is a 0 0 (omega arith),
      map_at key is b 0 0 inside,
      order_at (NoFall (block_keys f)) is (group_sorted limit (blocks_of f) is listed) a b l inside,
    )

module _ {ks : List ℕ} {key : ℕ} where
  -- at first nothing is known
  pub between_all : (n : ℕ) → n ≡ length ks → KeyBetween ks key 0 n
  between_all n e =
      record { below = λ k h. absurd (omega arith); above = λ k h l. absurd (omega arith) }

  module _ (ordered : NeverFall ks) {low high : ℕ} (at : KeyBetween ks key low high) (mid : ℕ)
      (h : mid < length ks) where
    -- the search goes on behind a key below
    pub between_after : get_or ks mid 0 < key → KeyBetween ks key (mid + 1) high
    between_after l =
        record {
          below = λ k b. omega (arith, no_fall ks ordered k mid (omega arith) h);
          above = at.above;
        }

    -- and before one that is not
    pub between_before : key ≤ get_or ks mid 0 → KeyBetween ks key low mid
    between_before l =
        record {
          below = at.below;
          above = λ k b inside. omega (arith, no_fall ks ordered mid k b inside);
        }

  -- the key stands among some exactly where the search ends, if anywhere
  pub among_found : NeverFall ks → (r : ℕ) → KeyBetween ks key r r → (b : Bool)
      → SaysAt ks key r b → b ≡ among key ks
  among_found ordered r at true says =
      sym (among_at ks key r (says.here refl).0 (says.here refl).1)
  among_found ordered r at false says = sym (among_none ks key nowhere)
    where
      nowhere : (k : ℕ) → k < length ks → get_or ks k 0 ≡ key → ⊥
      nowhere k h e =
          elim (dec_lt k r) [
            | yes l ↦ omega (arith, at.below k l)
            | no d ↦ says.absent refl (omega arith)
                (omega (
                  arith,
                  at.above r (le_refl r) (omega arith),
                  no_fall ks ordered r k (omega arith) h,
                ))
          ]

  -- a place with the key
  pub among_here : (k : ℕ) (b : Bool) → SaysAt ks key k b → b ≡ true → true ≡ among key ks
  among_here k b says t = sym (among_at ks key k (says.here t).0 (says.here t).1)
