-- Steps: what a call that is lent work numbers and a text answers and leaves, as it is compared
-- with a vector.
use Rattle.std.specs.Prelude.{ℕ, Bool, ◌&&◌, List, [], ◌∷◌, ◌++◌}
use Rattle.call_frame.specs.Numbers.{Handed}
use Rattle.case_io.specs.Same.{same_numbers}

-- the text of a call
abbrev pub the_text : List (List ℕ) → List ℕ
the_text [] = []
the_text (t ∷ results) = t

-- with more work numbers and more text after what was lent
abbrev pub with_rest : Handed → List ℕ → List ℕ → Handed
with_rest h work text =
    record {
      numbers = h.numbers;
      work = h.work ++ work;
      results = (the_text h.results ++ text) ∷ [];
    }

-- the expected answer, the expected work numbers and the expected text, all of them
abbrev pub same_left : (answer work text : List ℕ) → Handed → Bool
same_left answer work text h =
    same_numbers answer h.numbers
    && (same_numbers work h.work && same_numbers text (the_text h.results))
