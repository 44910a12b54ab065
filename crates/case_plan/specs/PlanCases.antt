-- Steps: the numbers that a call for the plan leaves, as they are compared with a vector's.
use Rattle.std.specs.Prelude.{ℕ, List, [], ◌∷◌, ◌++◌}
use Rattle.call_frame.specs.Numbers.{Handed}

-- the one result of a call
abbrev pub the_result : List (List ℕ) → List ℕ
the_result [] = []
the_result (r ∷ results) = r

-- the numbers of the answer, every work number, every number of the result
abbrev pub in_order : Handed → List ℕ
in_order h = h.numbers ++ (h.work ++ the_result h.results)
