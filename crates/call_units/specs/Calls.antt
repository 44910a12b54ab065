-- To be believed: the public calls for the units of a file from a given one on, and for their
-- lengths. Both are lent work numbers and a place for each length, the first a text too.
use Rattle.std.specs.Prelude.{ℕ, false, cond, List, [], ◌∷◌, map, length, drop, get_or}
use Rattle.std.proofs.Math.Option.{none}
use Rattle.base_fitting.specs.Fitting.{fitting}
use Rattle.base_hash.specs.Fnv.{hash_multiplier}
use Rattle.file_blocks.specs.Parse.{Block, Parsed}
use Rattle.lower_units.specs.Units.{TranslationUnit, units}
use Rattle.emit_units.specs.Texts.{unit_length, texts_of, done_with, ends_file}
use Rattle.call_frame.specs.Frame.{Decision, Call, Outcome, makes, call_frame}
use Rattle.call_frame.specs.Pieces.{of_those_that_fit}
use Rattle.call_frame.specs.Numbers.{Handed, handed}
use Rattle.call_units.specs.declared.units.Asked.{Asked}
use Rattle.call_units.specs.declared.units.FrontValues.{FrontValues}
use Rattle.call_units.specs.declared.lengths.LengthsValues.{LengthsValues}

-- what is made of some units: their values; their texts, one after another, and their lengths
abbrev pub made_units : List TranslationUnit → Decision FrontValues
made_units us =
    makes
    (record {
      count = length us;
      length = length (texts_of us);
      done = done_with 0 us;
      last = ends_file false us;
    }) (texts_of us ∷ map unit_length us ∷ [])

-- their lengths alone
abbrev pub made_lengths : List TranslationUnit → Decision LengthsValues
made_lengths us =
    makes (record { count = length us; done = done_with 0 us; last = ends_file false us })
    (map unit_length us ∷ [])

-- the units of some blocks from the first that is asked for on
abbrev pub units_asked : Asked → List Block → List TranslationUnit
units_asked asked bs = drop asked.first (units hash_multiplier asked.limit asked.max bs)

-- what the call for units makes: as many whole units as fit the text and have a place among the
-- lengths, or 9 where there is no first
abbrev pub asks_units : Asked → Call FrontValues
asks_units asked =
    record {
      early = none;
      per_block = 4;
      own = λ (bs : List Block) (rooms : List ℕ).
          of_those_that_fit made_units (fitting unit_length (get_or rooms 0 0) (get_or rooms 1 0))
          (units_asked asked bs);
    }

-- what the call for lengths makes: as many as have a place; a length takes no room but that
abbrev pub asks_lengths : Asked → Call LengthsValues
asks_lengths asked =
    record {
      early = none;
      per_block = 4;
      own = λ (bs : List Block) (rooms : List ℕ).
          of_those_that_fit made_lengths (fitting (λ (u : TranslationUnit). 0) 0 (get_or rooms 0 0))
          (units_asked asked bs);
    }

-- the call for units, by the work numbers, the text and the lengths that are lent
abbrev pub units_call : Asked → Parsed → List ℕ → List ℕ → List ℕ → Outcome FrontValues
units_call asked p work text lengths = call_frame (asks_units asked) p work (text ∷ lengths ∷ [])

-- the call for lengths, by the work numbers and the lengths that are lent
abbrev pub lengths_call : Asked → Parsed → List ℕ → List ℕ → Outcome LengthsValues
lengths_call asked p work lengths = call_frame (asks_lengths asked) p work (lengths ∷ [])

-- what the call for units hands over: after the numbers of every answer the number of units, the
-- bytes in all, the blocks done, and 1 for the last unit, else 0
abbrev pub units_numbers : Outcome FrontValues → Handed
units_numbers =
    handed 4 (λ (v : FrontValues). v.count ∷ v.length ∷ v.done ∷ cond v.last 1 0 ∷ [])

-- what the call for lengths hands over: the same without the bytes in all
abbrev pub lengths_numbers : Outcome LengthsValues → Handed
lengths_numbers = handed 3 (λ (v : LengthsValues). v.count ∷ v.done ∷ cond v.last 1 0 ∷ [])
