-- Measuring and writing, held against one another and against the unit in one call.
-- Assumes nothing.
use Prim.Native.Nat.{ℕ, ◌*◌, ◌≤◌}
use mathlib.Core.Path.{◌≡◌, refl, sym, ap, ◌∙◌, subst}
use mathlib.Core.Bool.{Bool, true, false, cond}
use mathlib.Core.List.{List, [], ◌∷◌}
use mathlib.Core.Option.{Option, none, some}
use native.Mathlib.Omega.{arith}
use lib.ListN.{length, get_elem?}
use lib.Dec.{ltb}
use Rattle.base_hash.specs.Fnv.{hash_multiplier}
use Rattle.file_blocks.specs.declared.rule.Rule.{Rule}
use Rattle.file_blocks.specs.Refusal.{number, first_broken, rules}
use Rattle.file_blocks.specs.Parse.{Parsed, parsed, parse, blocks_of}
use Rattle.lower_units.specs.Units.{TranslationUnit, UnitValues, unit_values, text_of, units}
use Rattle.call_frame.specs.Answer.{Answer, refusal, value}
use Rattle.call_frame.specs.Frame.{Refusal, if_found, too_short, before_blocks, leave, call_on_blocks}
use Rattle.call_frame.specs.Frame.{Outcome, numbered, refused_with, put_fronts, cleared}
use Rattle.call_frame.specs.Frame.{settle, call_frame}
use Rattle.call_answers.specs.declared.Told.{Told}
use Rattle.call_answers.specs.Values.{same_values}
use Rattle.call_answers.proofs.Values.{same_self, same_told}
use Rattle.call_unit.specs.Calls.{told_of_unit, measures, writes, made_unit}
use Rattle.call_unit.specs.Calls.{measure_call, write_call, unit_call}
use Rattle.call_unit.specs.Claims.{bare, without_values, MeasureThenWrite}

-- a refusal is no value; a value is one only, and a refusal has one number only
no_value : {A : Type 0} (n i : ℕ) (v : A) → refusal n i ≡ value v → ⊥
no_value n i v e = let z : ◌≡◌ {A = ℕ} 0 1 = cc in omega arith

one_value : {A : Type 0} (v w : A) → ◌≡◌ {A = Answer A} (value v) (value w) → v ≡ w
one_value v w e = cc

one_number : {A : Type 0} (n i m j : ℕ) → ◌≡◌ {A = Answer A} (refusal n i) (refusal m j) → n ≡ m
one_number n i m j e = cc

-- what a decision leaves that makes the text of a unit, by whether the text lent is too short
abbrev left : {A : Type 0} → A → TranslationUnit → List ℕ → List ℕ → Bool → Outcome A
left v u work text tight =
    cond tight (refused_with (numbered 10) work (text ∷ []))
    (record {
      answer = value v;
      work = work;
      results = put_fronts (text_of u.tree ∷ []) (text ∷ []);
    })

-- by the refusal that is found before the blocks are looked at, and by the unit, where m work
-- numbers are cleared
module _ (m : ℕ) where
  tells_of : (b : Option Refusal) (o : Option TranslationUnit) (k : ℕ) (v : UnitValues)
      (work text : List ℕ)
      → (leave b m (if_found made_unit o) work (text ∷ [])).answer ≡ value v
      → (leave b m (if_found (measures k) o) work []).answer ≡ value (told_of_unit k v)
  tells_of (some r) o k v work text e = absurd (no_value _ _ _ e)
  tells_of none none k v work text e = absurd (no_value _ _ _ e)
  tells_of none (some u) k v work text e =
      ap (λ (w : UnitValues). value (told_of_unit k w))
      (go (too_short (text_of u.tree ∷ []) (text ∷ [])) e)
    where
      go : (tight : Bool) → (left (unit_values u) u (cleared m work) text tight).answer ≡ value v
          → unit_values u ≡ v
      go true h = absurd (no_value _ _ _ h)
      go false h = one_value _ _ h

  -- what is told is told of the unit that is asked for
  told_unit : (b : Option Refusal) (o : Option TranslationUnit) (k : ℕ) (t : Told)
      (work : List ℕ) → (leave b m (if_found (measures k) o) work []).answer ≡ value t
      → t.unit ≡ k
  told_unit (some r) o k t work e = absurd (no_value _ _ _ e)
  told_unit none none k t work e = absurd (no_value _ _ _ e)
  told_unit none (some u) k t work e = ap (λ (s : Told). s.unit) (sym (one_value _ _ e))

  as_before_of : (b b' : Option Refusal) (o : Option TranslationUnit) (k : ℕ) (t : Told)
      (work work' text : List ℕ)
      → (leave b m (if_found (measures k) o) work []).answer ≡ value t
      → leave b' m (if_found (writes t) o) work' (text ∷ [])
      ≡ without_values (leave b' m (if_found made_unit o) work' (text ∷ []))
  as_before_of (some r) b' o k t work work' text e = absurd (no_value _ _ _ e)
  as_before_of none b' none k t work work' text e = absurd (no_value _ _ _ e)
  as_before_of none (some r) (some u) k t work work' text e = refl
  as_before_of none none (some u) k t work work' text e =
      subst
      (λ (s : Told). settle (writes s u) (cleared m work') (text ∷ [])
      ≡ without_values (settle (made_unit u) (cleared m work') (text ∷ [])))
      (one_value _ _ e)
      (rw (same_self (told_of_unit k (unit_values u)))
      (go (too_short (text_of u.tree ∷ []) (text ∷ []))))
    where
      go : (tight : Bool)
          → left tt u (cleared m work') text tight
          ≡ without_values (left (unit_values u) u (cleared m work') text tight)
      go true = refl
      go false = refl

  caught_of : (b : Option Refusal) (o : Option TranslationUnit) (given t : Told)
      (work text : List ℕ)
      → (leave b m (if_found (measures given.unit) o) work []).answer ≡ value t
      → (given ≡ t → ⊥)
      → leave b m (if_found (writes given) o) work (text ∷ [])
      ≡ record {
        answer = refusal 11 0;
        work = (leave b m (if_found (measures given.unit) o) work []).work;
        results = text ∷ [];
      }
  caught_of (some r) o given t work text e other = absurd (no_value _ _ _ e)
  caught_of none none given t work text e other = absurd (no_value _ _ _ e)
  caught_of none (some u) given t work text e other = rw (go _ refl)
    where
      go : (same : Bool) → same_values given (told_of_unit given.unit (unit_values u)) ≡ same
          → same_values given (told_of_unit given.unit (unit_values u)) ≡ false
      go true h = absurd (other (same_told _ _ refl h ∙ one_value _ _ e))
      go false h = h

  up_to_9_of : (few : Bool) (o : Option TranslationUnit) (k n i : ℕ) (work : List ℕ)
      → (leave (cond few (some (numbered 8)) none) m (if_found (measures k) o) work []).answer
      ≡ refusal n i
      → n ≤ 9
  up_to_9_of true o k n i work e = let z = one_number _ _ _ _ e in omega arith
  up_to_9_of false none k n i work e = let z = one_number _ _ _ _ e in omega arith
  up_to_9_of false (some u) k n i work e = absurd (no_value _ _ _ (sym e))

  refused_alike_of : (b : Option Refusal) (o : Option TranslationUnit) (given : Told) (n i : ℕ)
      (work text : List ℕ)
      → (leave b m (if_found (measures given.unit) o) work []).answer ≡ refusal n i
      → leave b m (if_found (writes given) o) work (text ∷ [])
      ≡ record {
        answer = refusal n i;
        work = (leave b m (if_found (measures given.unit) o) work []).work;
        results = text ∷ [];
      }
  refused_alike_of (some r) o given n i work text e =
      ap (λ (a : Answer Unit). record { answer = a; work = work; results = text ∷ [] })
      (ap bare e)
  refused_alike_of none none given n i work text e =
      ap (λ (a : Answer Unit). record { answer = a; work = cleared m work; results = text ∷ [] })
      (ap bare e)
  refused_alike_of none (some u) given n i work text e = absurd (no_value _ _ _ (sym e))

-- the rules of a file have numbers up to 7
rule_number : (r : Rule) → number r ≤ 7
rule_number Rule.Short = omega arith
rule_number Rule.Limits = omega arith
rule_number Rule.Trailer = omega arith
rule_number (Rule.Block i) = omega arith
rule_number (Rule.Order i) = omega arith
rule_number Rule.Sum = omega arith
rule_number (Rule.Instr i) = omega arith

module _ (limit max : ℕ) where
  tells : (p : Parsed) (k : ℕ) (v : UnitValues) (work text : List ℕ)
      → (unit_call limit max k p work text).answer ≡ value v
      → (measure_call limit max k p work).answer ≡ value (told_of_unit k v)
  unfolding call_frame call_on_blocks
  tells (Parsed.refused n i) k v work text e = absurd (no_value _ _ _ e)
  tells (Parsed.accepted bs) k v work text e =
      tells_of (4 * length bs) (before_blocks none (length work) (4 * length bs))
      (get_elem? (units hash_multiplier limit max bs) k) k v work text e

  as_before_lem : (p : Parsed) (k : ℕ) (t : Told) (work work' text : List ℕ)
      → (measure_call limit max k p work).answer ≡ value t
      → write_call limit max t p work' text
      ≡ without_values (unit_call limit max k p work' text)
  unfolding call_frame call_on_blocks
  as_before_lem (Parsed.refused n i) k t work work' text e = absurd (no_value _ _ _ e)
  as_before_lem (Parsed.accepted bs) k t work work' text e =
      let m = 4 * length bs in
      let us = units hash_multiplier limit max bs in
      let b = before_blocks none (length work) m in
      let b' = before_blocks none (length work') m in
      subst
      (λ (j : ℕ). leave b' m (if_found (writes t) (get_elem? us j)) work' (text ∷ [])
      ≡ without_values (leave b' m (if_found made_unit (get_elem? us k)) work' (text ∷ [])))
      (sym (told_unit m b (get_elem? us k) k t work e))
      (as_before_of m b b' (get_elem? us k) k t work work' text e)

  caught : (p : Parsed) (given t : Told) (work text : List ℕ)
      → (measure_call limit max given.unit p work).answer ≡ value t
      → (given ≡ t → ⊥)
      → write_call limit max given p work text
      ≡ record {
        answer = refusal 11 0;
        work = (measure_call limit max given.unit p work).work;
        results = text ∷ [];
      }
  unfolding call_frame call_on_blocks
  caught (Parsed.refused n i) given t work text e other = absurd (no_value _ _ _ e)
  caught (Parsed.accepted bs) given t work text e other =
      caught_of (4 * length bs) (before_blocks none (length work) (4 * length bs))
      (get_elem? (units hash_multiplier limit max bs) given.unit) given t work text e other

  refused_alike_lem : (p : Parsed) (given : Told) (n i : ℕ) (work text : List ℕ)
      → (measure_call limit max given.unit p work).answer ≡ refusal n i
      → write_call limit max given p work text
      ≡ record {
        answer = refusal n i;
        work = (measure_call limit max given.unit p work).work;
        results = text ∷ [];
      }
  unfolding call_frame call_on_blocks
  refused_alike_lem (Parsed.refused m j) given n i work text e =
      ap (λ (a : Answer Unit). record { answer = a; work = work; results = text ∷ [] })
      (ap bare e)
  refused_alike_lem (Parsed.accepted bs) given n i work text e =
      refused_alike_of (4 * length bs) (before_blocks none (length work) (4 * length bs))
      (get_elem? (units hash_multiplier limit max bs) given.unit) given n i work text e

  up_to_9 : (f : List ℕ) (broken : Option Rule) (k n i : ℕ) (work : List ℕ)
      → (measure_call limit max k (parsed f broken) work).answer ≡ refusal n i → n ≤ 9
  unfolding call_frame call_on_blocks
  up_to_9 f (some r) k n i work e =
      let z = one_number _ _ _ _ e in omega (arith, rule_number r)
  up_to_9 f none k n i work e =
      let m = 4 * length (blocks_of f) in
      up_to_9_of m (ltb (length work) m)
      (get_elem? (units hash_multiplier limit max (blocks_of f)) k) k n i work e

pub measure_then_write : (limit max : ℕ) (f : List ℕ) → MeasureThenWrite limit max f
unfolding parse
measure_then_write limit max f =
    record {
      tells = tells limit max (parse f);
      up_to9 = up_to_9 limit max f (first_broken f (rules f));
      as_before = as_before_lem limit max (parse f);
      refused_alike = refused_alike_lem limit max (parse f);
      caught = caught limit max (parse f);
    }
