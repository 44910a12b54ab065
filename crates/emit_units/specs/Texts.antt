-- To be believed: some units, one after another.
use Rattle.std.specs.Prelude.{ℕ, Bool, length}
use mathlib.Core.List.{List, [], ◌∷◌, map, flatten}
use Rattle.lower_units.specs.Units.{TranslationUnit, text_of}

-- how long the text of a unit is
abbrev pub unit_length : TranslationUnit → ℕ
unit_length u = length (text_of u.tree)

-- their texts
unfoldable pub texts_of : List TranslationUnit → List ℕ
texts_of us = flatten (map (λ (u : TranslationUnit). text_of u.tree) us)

-- the blocks done with the last of them, n where there is none
unfoldable pub done_with : ℕ → List TranslationUnit → ℕ
done_with n [] = n
done_with n (u ∷ us) = done_with u.done us

-- whether the last of them is the last of the file, b where there is none
unfoldable pub ends_file : Bool → List TranslationUnit → Bool
ends_file b [] = b
ends_file b (u ∷ us) = ends_file u.last us
