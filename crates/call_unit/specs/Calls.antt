-- To be believed: the public calls for a unit of a file (document 02, request 3): one measures it,
-- lent work numbers alone; one writes it into a text by what measuring told. The unit in one call,
-- as document 01 has it, is what both are held against.
use Rattle.std.specs.Prelude.{ℕ, cond, List, [], ◌∷◌}
use Rattle.std.proofs.Math.Option.{none}
use Rattle.std.proofs.Math.ListN.{get_elem?}
use Rattle.base_hash.specs.Fnv.{hash_multiplier}
use Rattle.file_blocks.specs.Parse.{Block, Parsed}
use Rattle.lower_units.specs.Units.{TranslationUnit, UnitValues, unit_values, text_of, units}
use Rattle.call_frame.specs.Frame.{Decision, Call, Outcome, refuses, makes, numbered, if_found}
use Rattle.call_frame.specs.Frame.{call_frame}
use Rattle.call_frame.specs.Numbers.{Handed, handed}
use Rattle.call_answers.specs.declared.Told.{Told}
use Rattle.call_answers.specs.Values.{told_of, same_values}

-- a call for unit k at a group limit and a wished size, which needs four work numbers for each
-- block: what is decided of that unit, or 9 where there is none
abbrev pub asks_of_unit : {A : Type 0} → (TranslationUnit → Decision A) → ℕ → ℕ → ℕ → Call A
asks_of_unit decide limit max k =
    record {
      early = none;
      per_block = 4;
      own = λ (bs : List Block) (rooms : List ℕ).
          if_found decide (get_elem? (units hash_multiplier limit max bs) k);
    }

-- what is told of unit k
abbrev pub told_of_unit : ℕ → UnitValues → Told
told_of_unit k v = told_of k v.length v.done v.last

-- measuring tells of a unit, and makes no text
abbrev pub measures : ℕ → TranslationUnit → Decision Told
measures k u = makes (told_of_unit k (unit_values u)) []

-- writing makes the text where what is given for the unit has its values, or refuses with 11; it
-- tells nothing: `Unit` is the type that has no value but `tt`
abbrev pub writes : Told → TranslationUnit → Decision Unit
writes t u =
    cond (same_values t (told_of_unit t.unit (unit_values u)))
    (makes tt (text_of u.tree ∷ []))
    (refuses (numbered 11))

-- the one call makes the values of a unit, and its text
abbrev pub made_unit : TranslationUnit → Decision UnitValues
made_unit u = makes (unit_values u) (text_of u.tree ∷ [])

-- measures unit k of a file, by the work numbers that are lent
abbrev pub measure_call : ℕ → ℕ → ℕ → Parsed → List ℕ → Outcome Told
measure_call limit max k p work = call_frame (asks_of_unit (measures k) limit max k) p work []

-- writes the unit of which t is given, by the work numbers and the text that are lent
abbrev pub write_call : ℕ → ℕ → Told → Parsed → List ℕ → List ℕ → Outcome Unit
write_call limit max t p work text =
    call_frame (asks_of_unit (writes t) limit max t.unit) p work (text ∷ [])

-- unit k of a file in one call (document 01), by the work numbers and the text that are lent
abbrev pub unit_call : ℕ → ℕ → ℕ → Parsed → List ℕ → List ℕ → Outcome UnitValues
unit_call limit max k p work text =
    call_frame (asks_of_unit made_unit limit max k) p work (text ∷ [])

-- what measuring hands over: after the numbers of every answer the unit's number, its length, the
-- blocks done and the last mark
abbrev pub measure_numbers : Outcome Told → Handed
measure_numbers = handed 4 (λ (t : Told). t.unit ∷ t.length ∷ t.done ∷ t.last ∷ [])

-- what writing hands over: the numbers of every answer alone
abbrev pub write_numbers : Outcome Unit → Handed
write_numbers = handed 0 (λ (written : Unit). [])
