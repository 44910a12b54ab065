-- Examples: the calls for units and for lengths on a refused file, and on one whose blocks are too
-- many for the work numbers; what is made of three small units by what is lent; computed.
use Rattle.std.specs.Prelude.{◌≡◌, refl, ℕ, true, false, length, drop}
use mathlib.Core.List.{List, [], ◌∷◌, flatten}
use Rattle.base_fitting.specs.Fitting.{fitting}
use Rattle.base_text.specs.Doc.{print}
use Rattle.c_tree.specs.Stmt.{blank}
use Rattle.lower_units.specs.Units.{TranslationUnit, text_of}
use Rattle.emit_units.specs.Texts.{unit_length, texts_of, done_with, ends_file}
use Rattle.call_frame.specs.Answer.{refusal, value}
use Rattle.file_blocks.specs.Parse.{Parsed}
use Rattle.plan_exits.specs.Examples.{three_blocks}
use Rattle.call_frame.specs.Frame.{Outcome, settle, call_on_blocks, call_frame}
use Rattle.call_frame.specs.Pieces.{of_those_that_fit}
use Rattle.call_units.specs.declared.units.Asked.{Asked}
use Rattle.call_units.specs.Calls.{units_call, units_numbers, lengths_call, lengths_numbers}
use Rattle.call_units.specs.declared.units.FrontValues.{FrontValues}
use Rattle.call_units.specs.Calls.{made_units}

-- units from the first on, of any size
abbrev all : Asked
all = record { limit = 8192; max = 0; first = 0 }

-- the numbers handed over on refusal
units_refused : units_numbers (units_call all (Parsed.refused 4 2) (5 ∷ []) (7 ∷ []) (9 ∷ []))
    ≡ record {
      numbers = 4 ∷ 2 ∷ 0 ∷ 0 ∷ 0 ∷ 0 ∷ [];
      work = 5 ∷ [];
      results = (7 ∷ []) ∷ (9 ∷ []) ∷ [];
    }
unfolding call_frame
units_refused = refl

lengths_refused : lengths_numbers (lengths_call all (Parsed.refused 4 2) (5 ∷ []) (9 ∷ []))
    ≡ record { numbers = 4 ∷ 2 ∷ 0 ∷ 0 ∷ 0 ∷ []; work = 5 ∷ []; results = (9 ∷ []) ∷ [] }
unfolding call_frame
lengths_refused = refl

-- one work number is too few
units_8 : units_call all (Parsed.accepted three_blocks) (5 ∷ []) (7 ∷ []) (9 ∷ [])
    ≡ record { answer = refusal 8 0; work = 5 ∷ []; results = (7 ∷ []) ∷ (9 ∷ []) ∷ [] }
unfolding call_frame call_on_blocks three_blocks
units_8 = refl

-- three units, with texts of one, two and no bytes
abbrev small : List TranslationUnit
small =
    record { tree = blank ∷ []; done = 1; last = false }
    ∷ record { tree = blank ∷ blank ∷ []; done = 3; last = false }
    ∷ record { tree = []; done = 3; last = true }
    ∷ []

-- what the call leaves of some units, by a text and lengths
abbrev leaves : List TranslationUnit → List ℕ → List ℕ → Outcome FrontValues
leaves us text lengths =
    settle (of_those_that_fit made_units (fitting unit_length (length text) (length lengths)) us) []
    (text ∷ lengths ∷ [])

-- there is no unit
units_9 : leaves [] (7 ∷ []) (8 ∷ [])
    ≡ record { answer = refusal 9 0; work = []; results = (7 ∷ []) ∷ (8 ∷ []) ∷ [] }
units_9 = refl

-- there is no place for a length
units_no_place : leaves small (7 ∷ []) []
    ≡ record { answer = refusal 10 0; work = []; results = (7 ∷ []) ∷ [] ∷ [] }
unfolding fitting texts_of flatten text_of print
units_no_place = refl

-- the text is a byte short for the first
units_short : leaves (drop 1 small) (7 ∷ []) (8 ∷ [])
    ≡ record { answer = refusal 10 0; work = []; results = (7 ∷ []) ∷ (8 ∷ []) ∷ [] }
unfolding fitting texts_of flatten text_of print
units_short = refl

-- two have a place, and a byte is left
units_two : leaves small (7 ∷ 7 ∷ 7 ∷ 7 ∷ []) (8 ∷ 8 ∷ [])
    ≡ record {
      answer = value (record { count = 2; length = 3; done = 3; last = false });
      work = [];
      results = (10 ∷ 10 ∷ 10 ∷ 7 ∷ []) ∷ (1 ∷ 2 ∷ []) ∷ [];
    }
unfolding fitting texts_of flatten text_of print done_with ends_file
units_two = refl

-- a text that is exactly full, and a place more than units
units_all : leaves small (7 ∷ 7 ∷ 7 ∷ []) (8 ∷ 8 ∷ 8 ∷ 8 ∷ [])
    ≡ record {
      answer = value (record { count = 3; length = 3; done = 3; last = true });
      work = [];
      results = (10 ∷ 10 ∷ 10 ∷ []) ∷ (1 ∷ 2 ∷ 0 ∷ 8 ∷ []) ∷ [];
    }
unfolding fitting texts_of flatten text_of print done_with ends_file
units_all = refl
