-- The units that are written one after another, as long as they fit.
-- Assumes nothing.
use Prim.Native.Nat.{ℕ, ◌+◌, ◌-◌, ◌≤◌, ◌<◌}
use mathlib.Core.Path.{◌≡◌, refl, sym, ap, ◌∙◌, subst}
use mathlib.Core.Bool.{Bool, true, false, cond}
use mathlib.Core.List.{List, [], ◌∷◌, ◌++◌, map, flatten, append-nil, append_assoc}
use native.Mathlib.Omega.{arith}
use lib.ListN.{length, take, drop, set, length-append, length-map, length-drop, take-append-drop}
use lib.ListN.{drop_of_length-le}
use lib.Seq.{take_all}
use Rattle.base_fitting.specs.Fitting.{fitting}
use Rattle.base_fitting.specs.Steps.{total, FitSoFar, HasFront}
use Rattle.base_fitting.proofs.Laws.{fit_none, fit_more, fit_full, fit_over, fit_all, front_none}
use Rattle.base_fitting.proofs.Laws.{front_more, front_set}
use Rattle.base_hash.specs.Fnv.{hash_multiplier}
use Rattle.base_text.proofs.Laws.{whole}
use Rattle.file_blocks.specs.Parse.{blocks_of, Accepted}
use Rattle.lower_units.specs.Units.{TranslationUnit, text_of, units}
use Rattle.emit_units.specs.declared.extents.Extent.{Extent}
use Rattle.emit_units.specs.Texts.{unit_length, texts_of, done_with, ends_file}
use Rattle.emit_units.specs.Units.{units_from, FirstUnit, MadeUnit, StartsAt}
use Rattle.emit_units.specs.Bounds.{Bounds}
use Rattle.emit_units.specs.Fronts.{FitUnit, PutUnits, PutLengths}
use Rattle.emit_units.proofs.Cuts.{unit_of, starts_next, found_in, unit_found, unit_bytes}
use Rattle.emit_units.proofs.Written.{made_text}

-- one unit more: its text, the sizes in all, the blocks done, whether it is the last
texts_more : (us : List TranslationUnit) (u : TranslationUnit)
    → texts_of (us ++ (u ∷ [])) ≡ texts_of us ++ text_of u.tree
unfolding texts_of flatten
texts_more [] u = append-nil (text_of u.tree)
texts_more (v ∷ us) u =
    ap (λ (t : List ℕ). text_of v.tree ++ t) (texts_more us u)
    ∙ sym (append_assoc (text_of v.tree) (texts_of us) (text_of u.tree))

sizes_more : (us : List TranslationUnit) (u : TranslationUnit)
    → map unit_length (us ++ (u ∷ [])) ≡ map unit_length us ++ (unit_length u ∷ [])
sizes_more [] u = refl
sizes_more (v ∷ us) u = ap (λ (ns : List ℕ). unit_length v ∷ ns) (sizes_more us u)

pub done_more : (n : ℕ) (us : List TranslationUnit) (u : TranslationUnit)
    → done_with n (us ++ (u ∷ [])) ≡ u.done
unfolding done_with
done_more n [] u = refl
done_more n (v ∷ us) u = done_more v.done us u

pub ends_more : (b : Bool) (us : List TranslationUnit) (u : TranslationUnit)
    → ends_file b (us ++ (u ∷ [])) ≡ u.last
unfolding ends_file
ends_more b [] u = refl
ends_more b (v ∷ us) u = ends_more v.last us u

pub total_texts : (us : List TranslationUnit) → total unit_length us ≡ length (texts_of us)
unfolding total texts_of flatten
total_texts [] = refl
total_texts (u ∷ us) = omega (arith, total_texts us, length-append (text_of u.tree) (texts_of us))

-- a unit that was measured and does not fit
pub unit_over : {f : List ℕ} {limit max g : ℕ} {e : Extent} (part : List ℕ)
    → FirstUnit f limit max g e → length part < e.length
    → FitUnit f limit max g part part e
unit_over part u over = record { first = u; fits = λ h. absurd (omega arith); kept = λ h. refl }

-- a unit where no unit is longer than a bound
pub unit_bounded : {f : List ℕ} {limit max k p bound : ℕ} {e : Extent} → Accepted f
    → (s : StartsAt f limit max k p) → FirstUnit f limit max s.group e
    → Bounds f limit max bound → e.length ≤ bound
unit_bounded ok s u bounds =
    omega (arith, unit_bytes s u ok, bounds _ (found_in _ _ _ (unit_found s u)))

-- a unit that was written, and fits
pub unit_fits : {f : List ℕ} {limit max k p : ℕ} {part part' : List ℕ} {e : Extent} → Accepted f
    → (s : StartsAt f limit max k p)
    → MadeUnit true f limit max s.group part part' e → e.length ≤ length part
    → FitUnit f limit max s.group part part' e
unfolding text_of
unit_fits ok s m fits =
    let bytes = unit_bytes s m.first ok in
    record {
      first = m.first;
      fits = λ h. record { same = (whole (made_text m) (omega (arith, bytes))).0 };
      kept = λ over. absurd (omega arith);
    }

-- some units from unit k on, the first of those that fit, whose lengths are in a front; which follow
-- is decided over the rest
pub record Listed (size : TranslationUnit → ℕ) (room : ℕ) (f : List ℕ) (limit max k p : ℕ)
    (lengths₀ lengths : List ℕ) (count end : ℕ) (last : Bool) : Type 0 where
  pub made : List TranslationUnit
  pub rest : List TranslationUnit
  pub so : FitSoFar size room (length lengths₀)
      (drop k (units hash_multiplier limit max (blocks_of f))) made rest
  pub sizes : HasFront (map unit_length made) lengths₀ lengths
  pub counted : count ≡ length made
  pub done : end ≡ done_with p made
  pub ends : last ≡ ends_file false made

-- the same where the rest begins with the unit of the row reached
pub record Going (size : TranslationUnit → ℕ) (room : ℕ) (f : List ℕ) (limit max k p : ℕ)
    (lengths₀ lengths : List ℕ) (count end : ℕ) : Type 0 where
  pub list : Listed size room f limit max k p lengths₀ lengths count end false
  pub starts : StartsAt f limit max (k + count) end
  pub next : list.rest ≡ units_from f limit max starts.group

unfoldable pub going_none : (size : TranslationUnit → ℕ) (room : ℕ) {f : List ℕ}
    {limit max k p : ℕ} (lengths : List ℕ) → StartsAt f limit max k p
    → Going size room f limit max k p lengths lengths 0 p
unfolding done_with ends_file
going_none size room {f} {limit} {max} {k} {p} lengths s =
    record {
      list =
          record {
            made = [];
            rest = drop k (units hash_multiplier limit max (blocks_of f));
            so = fit_none size _ _ _;
            sizes = front_none lengths;
            counted = refl;
            done = refl;
            ends = refl;
          };
      starts =
          record {
            group = s.group;
            within = s.within;
            here = s.here;
            units =
                ap (λ (j : ℕ). drop j (units hash_multiplier limit max (blocks_of f)))
                (let same : k + 0 ≡ k = omega arith in same)
                ∙ s.units;
          };
      next = s.units;
    }

module _ {size : TranslationUnit → ℕ} {room : ℕ} {f : List ℕ} {limit max k p : ℕ}
    {lengths₀ lengths : List ℕ} {count end : ℕ} (ok : Accepted f)
    (go : Going size room f limit max k p lengths₀ lengths count end) {e : Extent}
    (first : FirstUnit f limit max go.starts.group e) where
  -- the unit that is next
  abbrev pub next_unit : TranslationUnit
  next_unit = unit_of f limit go.starts.group first.size e

  -- those after it
  abbrev pub later : Bool → List TranslationUnit
  later last = cond last [] (units_from f limit max (go.starts.group + first.size))

  pub so_next : FitSoFar size room (length lengths₀)
      (drop k (units hash_multiplier limit max (blocks_of f))) go.list.made
      (next_unit ∷ later e.last)
  so_next =
      subst (FitSoFar size room (length lengths₀)
      (drop k (units hash_multiplier limit max (blocks_of f))) go.list.made)
      (go.next ∙ first.units) go.list.so

  pub next_size : e.length ≡ unit_length next_unit
  next_size = unit_bytes go.starts first ok

  module _ (fits : total size go.list.made + size next_unit ≤ room)
      (place : count < length lengths₀) (all : length lengths ≡ length lengths₀) where
    pub sizes_set : HasFront (map unit_length (go.list.made ++ (next_unit ∷ []))) lengths₀
        (set lengths count e.length)
    sizes_set =
        let here : length (map unit_length go.list.made) ≡ count =
        omega (arith, go.list.counted, length-map go.list.made unit_length) in
        subst (λ (ns : List ℕ). HasFront ns lengths₀ (set lengths count e.length))
        (sym (sizes_more go.list.made next_unit))
        (subst (λ (m : ℕ). HasFront (map unit_length go.list.made ++ (m ∷ [])) lengths₀
        (set lengths count e.length)) next_size
        (subst (λ (m : ℕ). HasFront (map unit_length go.list.made ++ (e.length ∷ [])) lengths₀
        (set lengths m e.length)) here
        (front_set (map unit_length go.list.made) e.length go.list.sizes
        (omega (arith, here, all)))))

    -- its length is set
    unfoldable pub list_more : (last : Bool) → e.last ≡ last
        → Listed size room f limit max k p lengths₀ (set lengths count e.length) (count + 1)
        e.end last
    list_more last is =
        record {
          made = go.list.made ++ (next_unit ∷ []);
          rest = later last;
          so =
              subst (λ (b : Bool). FitSoFar size room (length lengths₀)
              (drop k (units hash_multiplier limit max (blocks_of f)))
              (go.list.made ++ (next_unit ∷ [])) (later b)) is
              (fit_more size _ _ _ so_next (omega (arith, go.list.counted)) fits);
          sizes = sizes_set;
          counted = omega (arith, go.list.counted, length-append go.list.made (next_unit ∷ []));
          done = sym (done_more p go.list.made next_unit);
          ends = sym is ∙ sym (ends_more false go.list.made next_unit);
        }

    -- and others follow
    unfoldable pub going_more : e.last ≡ false
        → Going size room f limit max k p lengths₀ (set lengths count e.length) (count + 1)
        e.end
    unfolding list_more starts_next
    going_more on =
        let s = starts_next go.starts first on in
        record {
          list = list_more false on;
          starts =
              record {
                group = go.starts.group + first.size;
                within = s.within;
                here = s.here;
                units =
                    ap (λ (j : ℕ). drop j (units hash_multiplier limit max (blocks_of f)))
                    (let same : k + (count + 1) ≡ k + count + 1 = omega arith in same)
                    ∙ s.units;
              };
          next = refl;
        }

-- the lengths alone: all that have a place
pub lengths_done : {f : List ℕ} {limit max k p : ℕ} {lengths₀ lengths : List ℕ} {count end : ℕ}
    {last : Bool}
    (l : Listed (λ (u : TranslationUnit). 0) 0 f limit max k p lengths₀ lengths count end last)
    → fitting (λ (u : TranslationUnit). 0) 0 (length lengths₀)
    (drop k (units hash_multiplier limit max (blocks_of f))) ≡ l.made
    → PutLengths f limit max k p lengths₀ lengths
    (record { count = count; end = end; last = last })
lengths_done l all =
    record {
      made = l.made;
      fits = all;
      sizes = l.sizes;
      count = l.counted;
      end = l.done;
      last = l.ends;
    }

-- a text whose part from an index on was lent and came back
abbrev pub part_back : List ℕ → ℕ → List ℕ → List ℕ
part_back text at part = take at text ++ (part ++ drop (length text - at) (drop at text))

part_back_lem : (text : List ℕ) (at : ℕ) (part : List ℕ)
    → take at text ++ part ≡ part_back text at part
part_back_lem text at part =
    ap (λ (t : List ℕ). take at text ++ t)
    (sym (append-nil part)
    ∙ ap (λ (t : List ℕ). part ++ t)
    (sym (drop_of_length-le (drop at text) {i = length text - at}
    (omega (arith, length-drop at text)))))

-- some units as above, whose texts are in the front of a text too
pub record Putting (f : List ℕ) (limit max k p : ℕ) (text₀ lengths₀ text lengths : List ℕ)
    (count at end : ℕ) : Type 0 where
  pub go : Going unit_length (length text₀) f limit max k p lengths₀ lengths count end
  pub texts : HasFront (texts_of go.list.made) text₀ text
  pub bytes : at ≡ length (texts_of go.list.made)

pub putting_none : {f : List ℕ} {limit max k p : ℕ} (text lengths : List ℕ)
    → StartsAt f limit max k p → Putting f limit max k p text lengths text lengths 0 0 p
unfolding texts_of flatten going_none
putting_none text lengths s =
    record {
      go = going_none unit_length (length text) lengths s;
      texts = front_none text;
      bytes = refl;
    }

-- they are all that fit
units_done : {f : List ℕ} {limit max k p : ℕ} {text₀ lengths₀ text lengths : List ℕ}
    {count at end : ℕ} {last : Bool}
    (l : Listed unit_length (length text₀) f limit max k p lengths₀ lengths count end last)
    → HasFront (texts_of l.made) text₀ text → at ≡ length (texts_of l.made)
    → fitting unit_length (length text₀) (length lengths₀)
    (drop k (units hash_multiplier limit max (blocks_of f))) ≡ l.made
    → PutUnits f limit max k p text₀ lengths₀ text lengths
    (record { count = count; length = at; end = end; last = last })
units_done l texts bytes all =
    record {
      made = l.made;
      fits = all;
      texts = texts;
      sizes = l.sizes;
      count = l.counted;
      bytes = bytes;
      end = l.done;
      last = l.ends;
    }

module _ {f : List ℕ} {limit max k p : ℕ} {text₀ lengths₀ text lengths : List ℕ}
    {count at end : ℕ} (ok : Accepted f)
    (put : Putting f limit max k p text₀ lengths₀ text lengths count at end) where
  -- no place is left
  pub putting_full : length lengths₀ ≤ count
      → PutUnits f limit max k p text₀ lengths₀ text lengths
      (record { count = count; length = at; end = end; last = false })
  putting_full full =
      units_done put.go.list put.texts put.bytes
      (fit_full unit_length _ _ _ put.go.list.so (omega (arith, put.go.list.counted)))

  module _ {part : List ℕ} {e : Extent} (same : length text ≡ length text₀)
      (lent : FitUnit f limit max put.go.starts.group
      (take (length text - at) (drop at text)) part e) where
    abbrev unit : TranslationUnit
    unit = next_unit ok put.go lent.first

    -- what is lent is all from there on
    all_lent : take (length text - at) (drop at text) ≡ drop at text
    all_lent = take_all (length text - at) (drop at text) (omega (arith, length-drop at text))

    size : e.length ≡ unit_length unit
    size = next_size ok put.go lent.first

    -- it does not fit
    pub putting_over : length text - at < e.length
        → PutUnits f limit max k p text₀ lengths₀ (part_back text at part) lengths
        (record { count = count; length = at; end = end; last = false })
    putting_over over =
        subst (λ (t : List ℕ). PutUnits f limit max k p text₀ lengths₀ t lengths
        (record { count = count; length = at; end = end; last = false }))
        (sym (take-append-drop at text)
        ∙ ap (λ (q : List ℕ). take at text ++ q)
        (sym (lent.kept (omega (arith, ap length all_lent, length-drop at text)) ∙ all_lent))
        ∙ part_back_lem text at part)
        (units_done put.go.list put.texts put.bytes
        (fit_over unit_length _ _ _ (so_next ok put.go lent.first)
        (omega (arith, size, put.bytes, total_texts put.go.list.made))))

    module _ (room : e.length ≤ length text - at) (within : at ≤ length text) where
      -- it fits
      pub unit_room : total unit_length put.go.list.made + unit_length unit ≤ length text₀
      unit_room = omega (arith, size, put.bytes, total_texts put.go.list.made)

      texts : HasFront (texts_of (put.go.list.made ++ (unit ∷ []))) text₀ (part_back text at part)
      texts =
          subst (HasFront (texts_of (put.go.list.made ++ (unit ∷ []))) text₀)
          (part_back_lem text at part)
          (subst (λ (t : List ℕ). HasFront t text₀ (take at text ++ part))
          (sym (texts_more put.go.list.made unit))
          (subst (λ (m : ℕ). HasFront (texts_of put.go.list.made ++ text_of unit.tree) text₀
          (take m text ++ part)) (sym put.bytes)
          (front_more (texts_of put.go.list.made) (text_of unit.tree) put.texts
          ((lent.fits (omega (arith, ap length all_lent, length-drop at text))).same
          ∙ ap (λ (t : List ℕ). text_of unit.tree ++ drop (unit_length unit) t)
          (all_lent ∙ ap (λ (m : ℕ). drop m text) put.bytes)))))

      bytes : at + e.length ≡ length (texts_of (put.go.list.made ++ (unit ∷ [])))
      bytes =
          omega (
            arith,
            size,
            put.bytes,
            ap length (texts_more put.go.list.made unit),
            length-append (texts_of put.go.list.made) (text_of unit.tree),
          )

      module _ (place : count < length lengths₀) (all : length lengths ≡ length lengths₀) where
        -- others follow
        pub putting_more : e.last ≡ false
            → Putting f limit max k p text₀ lengths₀ (part_back text at part)
            (set lengths count e.length) (count + 1) (at + e.length) e.end
        unfolding going_more list_more
        putting_more on =
            record {
              go = going_more ok put.go lent.first unit_room place all on;
              texts = texts;
              bytes = bytes;
            }

        -- it is the last
        pub putting_last : e.last ≡ true
            → PutUnits f limit max k p text₀ lengths₀ (part_back text at part)
            (set lengths count e.length)
            (record { count = count + 1; length = at + e.length; end = e.end; last = true })
        unfolding list_more
        putting_last over =
            let l = list_more ok put.go lent.first unit_room place all true over in
            units_done l texts bytes (fit_all unit_length _ _ _ l.so)
