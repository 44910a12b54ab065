-- The units of a file's groups, as a walk over the groups cuts them.
use mathlib.Core.Path.{◌≡◌, refl, sym, ap, ap₂, ◌∙◌}
use Prim.Native.Nat.{ℕ, zero, suc, ◌+◌, ◌-◌, ◌≤◌, ◌<◌}
use native.Mathlib.Omega.{arith}
use native.Mathlib.Decide.{dec_lt}
use borrow.Author.Tests.{le-leb, lt-leb}
use mathlib.Core.Bool.{Bool, true, false, cond}
use mathlib.Core.List.{List, [], ◌∷◌, ◌++◌, map, Memᴰ}
use mathlib.Core.List.{nil≢cons, cons≢nil, head-eq_of_cons-eq}
use mathlib.Core.Option.{none, some, none-ne-some, some-injective}
use lib.Dec.{leb}
use lib.ListN.{length, length as ListN·length, get_or, take, drop, get_elem?, length-map, length-drop}
use lib.Seq.{take-suc, drop-cons, drop-drop, drop-length, drop-nil, get_or-drop}
use Rattle.base_text.specs.Wrote.{max_usize}
use Rattle.base_hash.specs.Fnv.{hash_multiplier}
use Rattle.file_blocks.specs.Parse.{blocks_of, Accepted}
use Rattle.plan_groups.specs.Plan.{groups}
use Rattle.plan_members.specs.Members.{start_of}
use Rattle.plan_members.specs.Prepared.{HoldsPlan}
use Rattle.plan_members.proofs.Places.{start_next, start_inside, group_left, group_has}
use Rattle.c_tree.specs.Stmt.{Top}
use Rattle.lower_forms.specs.Forms.{Body}
use Rattle.lower_units.specs.Units.{TranslationUnit, emit_group, unit_head, last_unit_end, text_of, cut}
use Rattle.lower_units.specs.Units.{default_body, bodies_of, emit_c_chunked, units_by, units}
use Rattle.lower_units.proofs.Lengths.{text_append, units_short}
use Rattle.emit_units.specs.declared.extents.Extent.{Extent}
use Rattle.emit_group.specs.Groups.{file_bodies}
use Rattle.emit_units.specs.Units.{after, grown, unit_groups, unit_tree, units_with, units_from}
use Rattle.emit_units.specs.Units.{FirstUnit, StartsAt, IsUnit}

-- a group after some
pub grown_last : (bs : List Body) (ts : List Top) (gs : List (List ℕ)) (is : List ℕ)
    → grown bs ts (gs ++ (is ∷ [])) ≡ grown bs ts gs ++ emit_group (bodies_of bs is)
unfolding grown
grown_last bs ts [] is = refl
grown_last bs ts (js ∷ gs) is = grown_last bs (ts ++ emit_group (bodies_of bs js)) gs is

-- one group more from group g on
pub grown_next : (bs : List Body) (ts : List Top) (gs : List (List ℕ)) (g size : ℕ)
    → g + size < length gs
    → grown bs ts (take (suc size) (drop g gs))
    ≡ grown bs ts (take size (drop g gs)) ++ emit_group (bodies_of bs (get_or gs (g + size) []))
grown_next bs ts gs g size h =
    ap (grown bs ts) (take-suc (drop g gs) size [] (omega (arith, length-drop g gs)))
    ∙ grown_last bs ts (take size (drop g gs)) (get_or (drop g gs) size [])
    ∙ ap (λ (is : List ℕ). grown bs ts (take size (drop g gs)) ++ emit_group (bodies_of bs is))
    (get_or-drop g gs size [])

module _ (f : List ℕ) (limit max : ℕ) where
  abbrev gs : List (List ℕ)
  gs = groups limit (blocks_of f)

  abbrev group_tree : ℕ → List Top
  group_tree j = emit_group (bodies_of (file_bodies f) (get_or gs j []))

  -- the unit that is handed on after group j
  abbrev handed : List Top → ℕ → TranslationUnit
  handed ts j = record { tree = ts ++ group_tree j; done = start_of gs (suc j); last = false }

  -- a group: the unit is handed on, or goes on
  cut_group : (ts : List Top) (j : ℕ) → j < length gs
      → units_with f limit max ts j
      ≡ cond (leb max (length (text_of (ts ++ group_tree j))))
      (handed ts j ∷ units_from f limit max (suc j))
      (units_with f limit max (ts ++ group_tree j) (suc j))
  unfolding cut bodies_of
  cut_group ts j h =
      let size : start_of gs j + length (bodies_of (file_bodies f) (get_or gs j []))
      ≡ start_of gs (suc j) =
      omega (
        arith,
        start_next gs j,
        length-map (get_or gs j [])
            (λ (i : ℕ). get_or (file_bodies f) i default_body),
      ) in
      ap (λ (hs : List (List ℕ)). cut max (last_unit_end (file_bodies f)) ts (start_of gs j)
      (map (bodies_of (file_bodies f)) hs)) (drop-cons gs j [] h)
      ∙ ap
      (λ (n : ℕ).
      cond (leb max (length (text_of (ts ++ group_tree j))))
      (record { tree = ts ++ group_tree j; done = n; last = false }
      ∷ cut max (last_unit_end (file_bodies f)) unit_head n
      (map (bodies_of (file_bodies f)) (drop (suc j) gs)))
      (cut max (last_unit_end (file_bodies f)) (ts ++ group_tree j) n
      (map (bodies_of (file_bodies f)) (drop (suc j) gs))))
      size

  pub cut_handed : (ts : List Top) (j : ℕ) → j < length (groups limit (blocks_of f))
      → max ≤ length
      (text_of (ts
      ++ emit_group (bodies_of (file_bodies f) (get_or (groups limit (blocks_of f)) j []))))
      → units_with f limit max ts j
      ≡ record {
        tree = ts ++ emit_group (bodies_of (file_bodies f) (get_or (groups limit (blocks_of f)) j []));
        done = start_of (groups limit (blocks_of f)) (suc j);
        last = false;
      }
      ∷ units_from f limit max (suc j)
  cut_handed ts j h long =
      cut_group ts j h
      ∙ ap (λ (x : Bool). cond x (handed ts j ∷ units_from f limit max (suc j))
      (units_with f limit max (ts ++ group_tree j) (suc j))) (le-leb _ _ long)

  pub cut_on : (ts : List Top) (j : ℕ) → j < length (groups limit (blocks_of f))
      → length
      (text_of (ts
      ++ emit_group (bodies_of (file_bodies f) (get_or (groups limit (blocks_of f)) j [])))) < max
      → units_with f limit max ts j
      ≡ units_with f limit max
      (ts ++ emit_group (bodies_of (file_bodies f) (get_or (groups limit (blocks_of f)) j [])))
      (suc j)
  cut_on ts j h short =
      cut_group ts j h
      ∙ ap (λ (x : Bool). cond x (handed ts j ∷ units_from f limit max (suc j))
      (units_with f limit max (ts ++ group_tree j) (suc j))) (lt-leb _ _ short)

  -- after the last group
  pub cut_end : (ts : List Top) (j : ℕ) → j ≡ length (groups limit (blocks_of f))
      → units_with f limit max ts j
      ≡ record {
        tree = ts ++ last_unit_end (file_bodies f);
        done = start_of (groups limit (blocks_of f)) j;
        last = true;
      } ∷ []
  unfolding cut
  cut_end ts j e =
      ap (λ (hs : List (List ℕ)). cut max (last_unit_end (file_bodies f)) ts (start_of gs j)
      (map (bodies_of (file_bodies f)) hs)) (ap (λ (i : ℕ). drop i gs) e ∙ drop-length gs)

  -- the units from group 0 on are all
  pub units_all : units_from f limit max 0 ≡ units hash_multiplier limit max (blocks_of f)
  unfolding units_by emit_c_chunked start_of
  units_all = refl

-- the length of a tree and another after it
pub after_both : (ts us : List Top) → after (after 0 ts) us ≡ after 0 (ts ++ us)
after_both ts us = omega (arith, text_append ts us)

-- how far the first unit of the groups from group g on has come: row q, and so many bytes
pub record Walked (f : List ℕ) (limit max g q at : ℕ) : Type 0 where
  pub size : ℕ
  pub within : g + size ≤ length (groups limit (blocks_of f))
  pub here : q ≡ start_of (groups limit (blocks_of f)) (g + size)
  pub bytes : at ≡ after 0 (unit_groups f limit g size)
  pub units : units_from f limit max g ≡ units_with f limit max (unit_groups f limit g size) (g + size)

-- no group yet
unfoldable pub walked_none : (f : List ℕ) (limit max g p at : ℕ) → g ≤ length (groups limit (blocks_of f))
    → p ≡ start_of (groups limit (blocks_of f)) g → at ≡ after 0 unit_head
    → Walked f limit max g p at
unfolding grown
walked_none f limit max g p at h e long =
    record {
      size = 0;
      within = omega arith;
      here = e ∙ ap (start_of (groups limit (blocks_of f))) same;
      bytes = long;
      units = ap (units_from f limit max) same;
    }
  where
    same : g ≡ g + 0
    same = omega arith

module _ {f : List ℕ} {n limit : ℕ} {work : List ℕ} (ready : HoldsPlan f n limit work)
    {max g q at : ℕ}
    (w : Walked f limit max g q at) where
  abbrev sofar : List Top
  sofar = unit_groups f limit g w.size

  abbrev next : List Top
  next = emit_group (bodies_of (file_bodies f) (get_or (groups limit (blocks_of f)) (g + w.size) []))

  module _ (left : q < n) (end at' : ℕ)
      (ends : end ≡ start_of (groups limit (blocks_of f)) (suc (g + w.size)))
      (long : at'
      ≡ after at
      (emit_group (bodies_of (file_bodies f) (get_or (groups limit (blocks_of f)) (g + w.size) []))))
      (most : max ≤ max_usize) where
    pub inside : g + w.size < length (groups limit (blocks_of f))
    inside = group_left ready (g + w.size) (omega (arith, w.here))

    pub one_more : suc (g + w.size) ≡ g + suc w.size
    one_more = omega arith

    pub walked_bytes : at' ≡ after 0 (sofar ++ next)
    walked_bytes = long ∙ ap (λ (m : ℕ). after m next) w.bytes ∙ after_both sofar next

    pub walked_tree : sofar ++ next ≡ unit_groups f limit g (suc w.size)
    walked_tree = sym (grown_next (file_bodies f) unit_head (groups limit (blocks_of f)) g w.size inside)

    -- a group after which the unit goes on
    unfoldable pub walked_more : at' < max → Walked f limit max g end at'
    walked_more short =
        record {
          size = suc w.size;
          within = omega (arith, inside);
          here = ends ∙ ap (start_of (groups limit (blocks_of f))) one_more;
          bytes = walked_bytes ∙ ap (after 0) walked_tree;
          units = w.units ∙ cut_on f limit max sofar (g + w.size) inside (omega (arith, walked_bytes))
              ∙ ap₂ (units_with f limit max) walked_tree one_more;
        }

    -- a group after which it is handed on
    unfoldable pub walked_handed : (start : ℕ) → start ≡ start_of (groups limit (blocks_of f)) g → max ≤ at'
        → FirstUnit f limit max g (record { start = start; end = end; length = at'; last = false })
    walked_handed start first enough =
        record {
          size = suc w.size;
          takes =
              record {
                within = omega (arith, inside);
                start = first;
                end = ends
                    ∙ ap (start_of (groups limit (blocks_of f))) one_more;
              };
          bytes = walked_bytes ∙ ap (after 0) walked_tree;
          units =
              w.units
              ∙ cut_handed f limit max sofar (g + w.size) inside (omega (arith, walked_bytes))
              ∙ ap₂ (λ (ts : List Top) (d : ℕ). record { tree = ts; done = d; last = false }
              ∷ units_from f limit max (suc (g + w.size))) walked_tree (sym ends)
              ∙ ap (λ (j : ℕ). record
              { tree = unit_groups f limit g (suc w.size); done = end; last = false }
              ∷ units_from f limit max j) one_more;
        }

  -- where no row is left
  unfoldable pub walked_end : (start length : ℕ)
      → start ≡ start_of (groups limit (blocks_of f)) g → n ≤ q
      → length ≡ after at (last_unit_end (file_bodies f))
      → FirstUnit f limit max g (record { start = start; end = q; length = length; last = true })
  walked_end start length first none_left long =
      record {
        size = w.size;
        takes = record { within = w.within; start = first; end = w.here };
        bytes = long ∙ ap (λ (m : ℕ). after m (last_unit_end (file_bodies f))) w.bytes
            ∙ after_both sofar (last_unit_end (file_bodies f));
        units =
            w.units
            ∙ cut_end f limit max sofar (g + w.size) all
            ∙ ap (λ (d : ℕ). record
            { tree = sofar ++ last_unit_end (file_bodies f); done = d; last = true } ∷ [])
            (sym w.here);
      }
    where
      all : g + w.size ≡ ListN·length (groups limit (blocks_of f))
      all =
          elim (dec_lt (g + w.size) (ListN·length (groups limit (blocks_of f)))) [
            | yes l ↦ absurd
                (omega (
                  arith,
                  w.here,
                  group_has ready (g + w.size) l,
                  start_next (groups limit (blocks_of f)) (g + w.size),
                  start_inside ready (suc (g + w.size)),
                ))
            | no d ↦ omega (arith, w.within)
          ]

-- before the first unit
pub starts_first : (f : List ℕ) (limit max : ℕ) → StartsAt f limit max 0 0
unfolding start_of
starts_first f limit max =
    record {
      group = 0;
      within = omega arith;
      here = refl;
      units = sym (units_all f limit max);
    }

-- an element at the front of what is left of a list
front_at : {A : Type 0} (xs : List A) (k : ℕ) (a : A) (ys : List A) → drop k xs ≡ a ∷ ys
    → get_elem? xs k ≡ some a
front_at [] zero a ys e = absurd (nil≢cons e)
front_at [] (suc k) a ys e = absurd (nil≢cons e)
front_at (x ∷ xs) zero a ys e = ap some (head-eq_of_cons-eq e)
front_at (x ∷ xs) (suc k) a ys e = front_at xs k a ys e

-- nothing is left of a list
pub none_at : {A : Type 0} (xs : List A) (k : ℕ) → drop k xs ≡ [] → get_elem? xs k ≡ none
none_at [] zero e = refl
none_at [] (suc k) e = refl
none_at (x ∷ xs) zero e = absurd (cons≢nil e)
none_at (x ∷ xs) (suc k) e = none_at xs k e

pub found_in : {A : Type 0} (xs : List A) (i : ℕ) (a : A) → get_elem? xs i ≡ some a → Memᴰ a xs
found_in [] i a e = absurd (none-ne-some a e)
found_in (x ∷ xs) zero a e = Memᴰ.head (sym (some-injective x a e))
found_in (x ∷ xs) (suc i) a e = Memᴰ.tail (found_in xs i a e)

-- the unit of an extent
abbrev pub unit_of : (f : List ℕ) (limit g size : ℕ) → Extent → TranslationUnit
unit_of f limit g size e =
    record { tree = unit_tree f limit g size e.last; done = e.end; last = e.last }

module _ {f : List ℕ} {limit max i p : ℕ} (s : StartsAt f limit max i p) {e : Extent}
    (u : FirstUnit f limit max s.group e) where
  -- a unit that is not the last
  unfoldable pub starts_next : e.last ≡ false → StartsAt f limit max (i + 1) e.end
  starts_next on =
      record {
        group = s.group + u.size;
        within = u.takes.within;
        here = u.takes.end;
        units =
            sym (drop-drop 1 i (units hash_multiplier limit max (blocks_of f)))
            ∙ ap (drop 1) (s.units ∙ u.units)
            ∙ ap (λ (x : Bool). cond x [] (units_from f limit max (s.group + u.size))) on;
      }

  -- none after the last
  pub starts_past : e.last ≡ true → (k : ℕ) → i < k
      → drop k (units hash_multiplier limit max (blocks_of f)) ≡ []
  starts_past over k later =
      ap (λ (j : ℕ). drop j (units hash_multiplier limit max (blocks_of f)))
      (let same : k ≡ i + suc (k - suc i) = omega arith in same)
      ∙ sym (drop-drop (suc (k - suc i)) i (units hash_multiplier limit max (blocks_of f)))
      ∙ ap (drop (suc (k - suc i))) (s.units ∙ u.units)
      ∙ ap (λ (x : Bool). drop (k - suc i) (cond x [] (units_from f limit max (s.group + u.size))))
      over
      ∙ drop-nil (k - suc i)

  -- the unit stands in the list
  pub unit_found : get_elem? (units hash_multiplier limit max (blocks_of f)) i
      ≡ some (unit_of f limit s.group u.size e)
  unit_found = front_at (units hash_multiplier limit max (blocks_of f)) i _ _ (s.units ∙ u.units)

  -- its length is exact
  pub unit_bytes : Accepted f
      → e.length ≡ length (text_of (unit_tree f limit s.group u.size e.last))
  unfolding units_by
  unit_bytes ok =
      omega (
        arith,
        u.bytes,
        units_short f (blocks_of f) ok hash_multiplier limit max _ (found_in _ i _ unit_found),
      )

-- the unit that is looked for
pub starts_unit : {f : List ℕ} {limit max k p : ℕ} {e : Extent} → Accepted f
    → (s : StartsAt f limit max k p) → FirstUnit f limit max s.group e → IsUnit f limit max k e
starts_unit {f} {limit} {max} {k} {p} {e} ok s u =
    record {
      at =
          record {
            group = s.group;
            within = s.within;
            here = u.takes.start;
            units = s.units;
          };
      first = u;
      unit = unit_of f limit s.group u.size e;
      found = unit_found s u;
      bytes = unit_bytes s u ok;
      done = refl;
      last = refl;
      tree = refl;
    }

-- two extents of the first unit have one tree
pub same_tree : {f : List ℕ} {limit max g : ℕ} {d e : Extent} (v : FirstUnit f limit max g d)
    (u : FirstUnit f limit max g e)
    → unit_tree f limit g v.size d.last ≡ unit_tree f limit g u.size e.last
same_tree {f} {limit} {max} {g} {d} {e} v u =
    ap (λ (t : TranslationUnit). t.tree) (head-eq_of_cons-eq (sym v.units ∙ u.units))

-- there is a unit from every group on
cut_some : (max : ℕ) (closed ts : List Top) (n : ℕ) (gs : List (List Body))
    → cut max closed ts n gs ≡ [] → ⊥
unfolding cut
cut_some max closed ts n [] e = cons≢nil e
cut_some max closed ts n (g ∷ gs) e =
    go (leb max (length (text_of (ts ++ emit_group g))))
    (cut_some max closed (ts ++ emit_group g) (n + length g) gs) e
  where
    go : (b : Bool)
        → (cut max closed (ts ++ emit_group g) (n + length g) gs ≡ [] → ⊥)
        → cond b (record { tree = ts ++ emit_group g; done = n + length g; last = false }
        ∷ cut max closed unit_head (n + length g) gs)
        (cut max closed (ts ++ emit_group g) (n + length g) gs) ≡ [] → ⊥
    go true later h = cons≢nil h
    go false later h = later h

pub units_some : {f : List ℕ} {limit max k p : ℕ} → StartsAt f limit max k p
    → drop k (units hash_multiplier limit max (blocks_of f)) ≡ [] → ⊥
units_some s e = cut_some _ _ _ _ _ (sym s.units ∙ e)
