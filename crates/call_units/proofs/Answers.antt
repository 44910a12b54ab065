-- The answers of the calls for units and for lengths.
-- Assumes nothing.
use Prim.Native.Nat.{ℕ, ◌<◌}
use mathlib.Core.Path.{◌≡◌, refl, sym, ap, ap₂, ◌∙◌}
use mathlib.Core.Bool.{Bool, true, false, cond, ◌||◌}
use mathlib.Core.List.{List, [], ◌∷◌, ◌++◌, map, flatten}
use native.Mathlib.Omega.{arith}
use borrow.Author.Tests.{ltb-false, lt-ltb, le-ltb}
use lib.ListN.{length, drop, length-map}
use Rattle.base_fitting.specs.Fitting.{fitting}
use Rattle.base_fitting.specs.Steps.{total}
use Rattle.base_fitting.proofs.Laws.{fit_room, fit_places, fit_nothing}
use Rattle.file_blocks.specs.Parse.{blocks_of}
use Rattle.lower_units.specs.Units.{TranslationUnit}
use Rattle.emit_units.specs.declared.fronts.Front.{Front}
use Rattle.emit_units.specs.declared.fronts.Lengths.{Lengths}
use Rattle.emit_units.specs.Texts.{unit_length, texts_of, done_with, ends_file}
use Rattle.emit_units.specs.Units.{StartsAt}
use Rattle.emit_units.specs.Fronts.{PutUnits, PutLengths}
use Rattle.emit_units.proofs.Cuts.{units_some}
use Rattle.emit_units.proofs.Fitted.{total_texts}
use Rattle.call_frame.proofs.Pieces.{Some, none_of, some_of, decided_9, decided_first}
use Rattle.call_frame.proofs.Pieces.{decided_front}
use Rattle.call_frame.proofs.Settling.{refused_own, refused_10, refused_short, handed_over}
use Rattle.call_frame.proofs.Settling.{handed_all}
use Rattle.call_frame.specs.Frame.{numbered, refused_with, too_short}
use Rattle.call_units.specs.declared.units.Asked.{Asked}
use Rattle.call_frame.specs.declared.refusal.Refusal.{Refusal}
use Rattle.std.specs.Prelude.{Ok, Err}
use Rattle.call_units.specs.declared.units.FrontValues.{FrontValues}
use Rattle.call_units.specs.declared.lengths.LengthsValues.{LengthsValues}
use Rattle.call_units.specs.Calls.{made_units, made_lengths, units_asked}
use Rattle.call_units.specs.Steps.{AnswersUnits, AnswersLengths}

-- the values of answers
abbrev front_of : ℕ → ℕ → ℕ → Bool → FrontValues
front_of c n d l = record { count = c; length = n; done = d; last = l }

abbrev lengths_of : ℕ → ℕ → Bool → LengthsValues
lengths_of c d l = record { count = c; done = d; last = l }

-- one of two tests is true, or both are false
either_true : (a b : Bool) → (a ≡ false → b ≡ true) → a || (b || false) ≡ true
either_true true b h = refl
either_true false b h = ap (λ (c : Bool). c || false) (h refl)

both_false : (a b : Bool) → a ≡ false → b ≡ false → a || (b || false) ≡ false
both_false a b p q = ap₂ (λ (c d : Bool). c || (d || false)) p q

-- which number stands for no unit does not matter where there is one
done_any : (n m : ℕ) (us : List TranslationUnit) → 0 < length us → done_with n us ≡ done_with m us
unfolding done_with
done_any n m [] h = absurd (omega arith)
done_any n m (u ∷ us) h = refl

-- the text of one unit
text_of_one : (u : TranslationUnit) → length (texts_of (u ∷ [])) ≡ unit_length u
unfolding total
text_of_one u = omega (arith, total_texts (u ∷ []))

module _ (asked : Asked) (f text lengths : List ℕ) where
  abbrev asks : List TranslationUnit
  asks = units_asked asked (blocks_of f)

  abbrev fit : List TranslationUnit → List TranslationUnit
  fit = fitting unit_length (length text) (length lengths)

  -- there is no such unit
  pub units_9 : units_asked asked (blocks_of f) ≡ []
      → AnswersUnits asked f (Err Refusal.NotFound) text lengths text lengths
  units_9 e = λ work. refused_own _ (decided_9 made_units fit asks e) work (text ∷ lengths ∷ [])

  module _ {p : ℕ} (s : StartsAt f asked.limit asked.max asked.first p)
      {text' lengths' : List ℕ} {r : Front}
      (put : PutUnits f asked.limit asked.max asked.first p text lengths text' lengths' r)
    where
      some : Some asks
      some = some_of asks (units_some s)

      -- the first does not fit what is lent
      no_room : fit asks ≡ []
          → too_short (texts_of (some.first ∷ []) ∷ (unit_length some.first ∷ []) ∷ [])
          (text ∷ lengths ∷ []) ≡ true
      no_room nothing =
          either_true _ _ (λ fits. lt-ltb (length lengths) 1
          (omega (
            arith,
            fit_nothing unit_length (length text) (length lengths) some.first some.others
                (ap fit (sym some.is) ∙ nothing)
                (omega (
                  arith,
                  text_of_one some.first,
                  ltb-false (length text) (length (texts_of (some.first ∷ []))) fits,
                )),
          )))

      -- not one fits
      pub units-10 : r.count ≡ 0
          → AnswersUnits asked f (Err Refusal.ShortResult) text lengths text' lengths'
      unfolding texts_of flatten
      units-10 zero = λ work.
          let made : put.made ≡ [] = none_of put.made (omega (arith, put.count)) in
          let nothing : fit asks ≡ [] = put.fits ∙ made in
          let kept : ◌≡◌ {A = List (List ℕ)} (text' ∷ lengths' ∷ []) (text ∷ lengths ∷ []) =
          ap₂ (λ (t l : List ℕ). t ∷ l ∷ [])
          (put.texts.same
          ∙ ap (λ (us : List TranslationUnit). texts_of us ++ drop (length (texts_of us)) text) made)
          (put.sizes.same
          ∙ ap (λ (us : List TranslationUnit). map unit_length us
          ++ drop (length (map unit_length us)) lengths) made) in
          ap (λ (rs : List (List ℕ)). refused_with (numbered 10) work rs) kept
          ∙ refused_short _ _ (decided_first made_units fit asks some nothing) work
          (text ∷ lengths ∷ []) (no_room nothing)

      -- some are in the fronts
      pub units-made : 0 < r.count
          → AnswersUnits asked f (Ok (front_of r.count r.length r.end r.last)) text
          lengths text' lengths'
      units-made any = λ work.
          let m = some_of put.made (λ e. omega (arith, put.count, ap length e)) in
          let values : front_of r.count r.length r.end r.last
          ≡ front_of (length put.made) (length (texts_of put.made)) (done_with 0 put.made)
          (ends_file false put.made) =
          ap₂ (λ (c n : ℕ). front_of c n r.end r.last) put.count put.bytes
          ∙ ap₂ (λ (d : ℕ) (l : Bool). front_of (length put.made) (length (texts_of put.made)) d l)
          (put.end ∙ done_any p 0 put.made (omega (arith, put.count))) put.last in
          handed_all _ _
          (decided_front made_units fit asks some m.first m.others (put.fits ∙ m.is)
          ∙ ap made_units (sym m.is)) work (text ∷ lengths ∷ []) _ (text' ∷ lengths' ∷ []) values
          (both_false _ _
          (le-ltb (length text) (length (texts_of put.made))
          (omega (
            arith,
            total_texts put.made,
            ap (total unit_length) put.fits,
            fit_room unit_length (length text) (length lengths) asks,
          )))
          (le-ltb (length lengths) (length (map unit_length put.made))
          (omega (
            arith,
            length-map put.made unit_length,
            ap length put.fits,
            fit_places unit_length (length text) (length lengths) asks,
          ))))
          (ap₂ (λ (t l : List ℕ). t ∷ l ∷ []) put.texts.same put.sizes.same)

module _ (asked : Asked) (f lengths : List ℕ) where
  abbrev places : List TranslationUnit → List TranslationUnit
  places = fitting (λ (u : TranslationUnit). 0) 0 (length lengths)

  -- there is no such unit
  pub lengths_9 : units_asked asked (blocks_of f) ≡ []
      → AnswersLengths asked f (Err Refusal.NotFound) lengths lengths
  lengths_9 e = λ work.
      refused_own _ (decided_9 made_lengths places (units_asked asked (blocks_of f)) e) work
      (lengths ∷ [])

  module _ {p : ℕ} (s : StartsAt f asked.limit asked.max asked.first p)
      {lengths' : List ℕ} {r : Lengths}
      (put : PutLengths f asked.limit asked.max asked.first p lengths lengths' r) where
    abbrev from : List TranslationUnit
    from = units_asked asked (blocks_of f)

    some_lengths : Some from
    some_lengths = some_of from (units_some s)

    -- there is no place
    pub lengths_10 : r.count ≡ 0
        → AnswersLengths asked f (Err Refusal.ShortResult) lengths lengths'
    lengths_10 zero = λ work.
        let made : put.made ≡ [] = none_of put.made (omega (arith, put.count)) in
        let nothing : places from ≡ [] = put.fits ∙ made in
        let kept : lengths' ≡ lengths =
        put.sizes.same
        ∙ ap (λ (us : List TranslationUnit). map unit_length us
        ++ drop (length (map unit_length us)) lengths) made in
        ap (λ (l : List ℕ). refused_with (numbered 10) work (l ∷ [])) kept
        ∙ refused_10 _ (unit_length some_lengths.first ∷ [])
        (decided_first made_lengths places from some_lengths nothing) work lengths
        (omega (
          arith,
          fit_nothing (λ (u : TranslationUnit). 0) 0 (length lengths) some_lengths.first
              some_lengths.others (ap places (sym some_lengths.is) ∙ nothing) (omega arith),
        ))

    -- some are in the front
    pub lengths_made : 0 < r.count
        → AnswersLengths asked f (Ok (lengths_of r.count r.end r.last)) lengths
        lengths'
    lengths_made any = λ work.
        let m = some_of put.made (λ e. omega (arith, put.count, ap length e)) in
        let values : lengths_of r.count r.end r.last
        ≡ lengths_of (length put.made) (done_with 0 put.made) (ends_file false put.made) =
        ap₂ (λ (c d : ℕ). lengths_of c d r.last) put.count
        (put.end ∙ done_any p 0 put.made (omega (arith, put.count)))
        ∙ ap (lengths_of (length put.made) (done_with 0 put.made)) put.last in
        handed_over _ _
        (decided_front made_lengths places from some_lengths m.first m.others
        (put.fits ∙ m.is)
        ∙ ap made_lengths (sym m.is)) work lengths _ lengths' values
        (omega (
          arith,
          length-map put.made unit_length,
          ap length put.fits,
          fit_places (λ (u : TranslationUnit). 0) 0 (length lengths) from,
        )) put.sizes.same
