-- The answers of the calls for a unit.
-- Assumes nothing.
use Prim.Native.Nat.{ℕ, ◌≤◌}
use mathlib.Core.Path.{◌≡◌, refl, sym, ap, ap₂, ◌∙◌, subst}
use mathlib.Core.Bool.{Bool, true, false}
use mathlib.Core.List.{List, [], ◌∷◌, ◌++◌}
use mathlib.Core.Option.{none}
use native.Mathlib.Omega.{arith}
use lib.ListN.{length, drop, get_elem?}
use Rattle.base_hash.specs.Fnv.{hash_multiplier}
use Rattle.file_blocks.specs.Parse.{blocks_of}
use Rattle.lower_units.specs.Units.{unit_values, text_of, units}
use Rattle.emit_units.specs.declared.extents.Extent.{Extent}
use Rattle.emit_units.specs.Units.{IsUnit}
use Rattle.call_frame.specs.Frame.{if_found, numbered}
use Rattle.call_frame.proofs.Settling.{refused_own, refused_10, handed_over, handed_all}
use Rattle.call_frame.specs.declared.refusal.Refusal.{Refusal}
use Rattle.std.specs.Prelude.{Result, Ok, Err}
use Rattle.call_answers.specs.declared.Told.{Told}
use Rattle.call_answers.specs.Answers.{answer_in}
use Rattle.call_answers.specs.Values.{told_of, same_values}
use Rattle.call_answers.proofs.Answers.{Why, differs, short, fits, why}
use Rattle.call_unit.specs.Calls.{told_of_unit, measures, writes}
use Rattle.call_unit.specs.Steps.{AnswersMeasure, AnswersWrite}

-- what is told of an extent is what is told of its unit
told_same : (f : List ℕ) (limit max k : ℕ) {e : Extent} (is : IsUnit f limit max k e)
    → told_of k e.length e.end e.last ≡ told_of_unit k (unit_values is.unit)
told_same f limit max k {e} is =
    ap₂ (λ (n d : ℕ). told_of k n d e.last) is.bytes is.done
    ∙ ap (told_of k (length (text_of is.unit.tree)) is.unit.done) is.last

module _ (f : List ℕ) (limit max k : ℕ) where
  -- there is no such unit
  pub measure_none : get_elem? (units hash_multiplier limit max (blocks_of f)) k ≡ none
      → AnswersMeasure limit max k f (Err Refusal.NotFound)
  measure_none e = λ work. refused_own _ (ap (if_found (measures k)) e) work []

  -- what is told of it
  pub measure_told : {e : Extent} (is : IsUnit f limit max k e) (t : Told)
      → t ≡ told_of k e.length e.end e.last
      → AnswersMeasure limit max k f (Ok t)
  measure_told is t told = λ work.
      handed_all _ [] (ap (if_found (measures k)) is.found) work [] t []
      (told ∙ told_same f limit max k is) refl refl

module _ (f : List ℕ) (limit max : ℕ) (given : Told) (text : List ℕ) where
  -- there is no such unit
  pub write_none : get_elem? (units hash_multiplier limit max (blocks_of f)) given.unit ≡ none
      → AnswersWrite limit max given f (Err Refusal.NotFound) text text
  write_none e = λ work. refused_own _ (ap (if_found (writes given)) e) work (text ∷ [])

  module _ {e : Extent} (is : IsUnit f limit max given.unit e) (found : Told)
      (told : found ≡ told_of given.unit e.length e.end e.last) where
    -- by whether the values are the same
    decided : (b : Bool) → same_values given found ≡ b
        → same_values given (told_of_unit given.unit (unit_values is.unit)) ≡ b
    decided b same =
        ap (same_values given) (sym (told ∙ told_same f limit max given.unit is)) ∙ same

    module _ (r : Result Unit Refusal) (answered : r ≡ answer_in given found (length text)) where
      by_why : Why given found (length text) r
      by_why = subst (Why given found (length text)) (sym answered) (why given found (length text))

      refused : {a : Result Unit Refusal} → Why given found (length text) a → (stop : Refusal)
          → a ≡ Err stop → AnswersWrite limit max given f a text text
      refused (differs other) stop known = λ work.
          refused_own (numbered 11)
          (ap (if_found (writes given)) is.found ∙ rw (decided false other)) work (text ∷ [])
      refused (short same long) stop known = λ work.
          refused_10 tt (text_of is.unit.tree)
          (ap (if_found (writes given)) is.found ∙ rw (decided true same)) work text
          (omega (arith, long, ap (λ (t : Told). t.length) told, is.bytes))
      refused (fits same enough) stop known =
          absurd (let z : ◌≡◌ {A = ℕ} 0 1 = cc in omega arith)

      -- a value differs, or its text is too long
      pub write_refused : (stop : Refusal) → r ≡ Err stop
          → AnswersWrite limit max given f r text text
      write_refused = refused by_why

      written : {a : Result Unit Refusal} → Why given found (length text) a → a ≡ Ok tt
          → (same_values given found ≡ true) × (found.length ≤ length text)
      written (differs other) known = absurd (let z : ◌≡◌ {A = ℕ} 0 1 = cc in omega arith)
      written (short same long) known = absurd (let z : ◌≡◌ {A = ℕ} 0 1 = cc in omega arith)
      written (fits same enough) known = (same, enough)

      -- its text fits
      pub write_fits : r ≡ Ok tt
          → length (text_of is.unit.tree) ≤ length text
      write_fits known =
          let enough = (written by_why known).1 in
          omega (arith, enough, ap (λ (t : Told). t.length) told, is.bytes)

      -- and is in the front
      pub write_made : r ≡ Ok tt → (text' : List ℕ)
          → text' ≡ text_of is.unit.tree ++ drop (length (text_of is.unit.tree)) text
          → AnswersWrite limit max given f r text text'
      write_made known text' put =
          subst (λ (a : Result Unit Refusal). AnswersWrite limit max given f a text text') (sym known)
          (λ work.
          handed_over tt (text_of is.unit.tree)
          (ap (if_found (writes given)) is.found ∙ rw (decided true (written by_why known).0))
          work text tt text' refl (write_fits known) put)
