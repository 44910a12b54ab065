-- Steps: the units from a given one on that fit what is lent.
use Rattle.std.specs.Prelude.{ℕ, ◌≤◌, ◌<◌, ◌≡◌, false, List, map, length, drop}
use Rattle.base_fitting.specs.Fitting.{fitting}
use Rattle.base_fitting.specs.Steps.{HasFront}
use Rattle.base_hash.specs.Fnv.{hash_multiplier}
use Rattle.file_blocks.specs.Parse.{blocks_of}
use Rattle.lower_units.specs.Units.{TranslationUnit, text_of, units}
use Rattle.emit_units.specs.declared.extents.Extent.{Extent}
use Rattle.emit_units.specs.declared.fronts.Front.{Front}
use Rattle.emit_units.specs.declared.fronts.Lengths.{Lengths}
use Rattle.emit_units.specs.Texts.{unit_length, texts_of, done_with, ends_file}
use Rattle.emit_units.specs.Units.{unit_tree, FirstUnit}

-- an extent is that of the first unit of the groups from group g on, whose text is in the front of
-- what a part became, if it fits; else the part stayed as it was
pub record FitUnit (f : List ℕ) (limit max g : ℕ) (part part' : List ℕ) (e : Extent) : Type 0 where
  pub first : FirstUnit f limit max g e
  pub fits : e.length ≤ length part
      → HasFront (text_of (unit_tree f limit g first.size e.last)) part part'
  pub kept : length part < e.length → part' ≡ part

-- some units from unit k on, those that fit, are in the fronts of a text and of some lengths; p
-- blocks are done before them
pub record PutUnits (f : List ℕ) (limit max k p : ℕ) (text lengths text' lengths' : List ℕ)
    (r : Front) : Type 0 where
  pub made : List TranslationUnit
  pub fits : fitting unit_length (length text) (length lengths)
      (drop k (units hash_multiplier limit max (blocks_of f))) ≡ made
  pub texts : HasFront (texts_of made) text text'
  pub sizes : HasFront (map unit_length made) lengths lengths'
  pub count : r.count ≡ length made
  pub bytes : r.length ≡ length (texts_of made)
  pub end : r.end ≡ done_with p made
  pub last : r.last ≡ ends_file false made

-- the lengths of some units from unit k on, those that have a place, are in the front of some
-- lengths; p blocks are done before them
pub record PutLengths (f : List ℕ) (limit max k p : ℕ) (lengths lengths' : List ℕ) (r : Lengths) :
    Type 0 where
  pub made : List TranslationUnit
  pub fits : fitting (λ (u : TranslationUnit). 0) 0 (length lengths)
      (drop k (units hash_multiplier limit max (blocks_of f))) ≡ made
  pub sizes : HasFront (map unit_length made) lengths lengths'
  pub count : r.count ≡ length made
  pub end : r.end ≡ done_with p made
  pub last : r.last ≡ ends_file false made
