-- Steps: what the decimal printer answers and leaves, as it is compared with a vector.
use Rattle.std.specs.Prelude.{ℕ, List, [], ◌∷◌, take, drop}
use Rattle.base_text.specs.Doc.{dec, print}
use Rattle.base_text.specs.Wrote.{index_after, overlay}
use Rattle.call_frame.specs.Numbers.{Handed}
use Rattle.case_lent.specs.Left.{with_rest}
use Rattle.case_decimal.specs.declared.asked.Asked.{Asked}

-- the index after the digits of n at index `at`, and the text with them there
abbrev pub prints_over : (n at : ℕ) (text : List ℕ) → Handed
prints_over n at text =
    record {
      numbers = index_after at (dec n) ∷ [];
      work = [];
      results = overlay text at (print (dec n)) ∷ [];
    }

-- the same, with all text of which a front was lent
abbrev pub printer_leaves : Asked → (text : List ℕ) → Handed
printer_leaves asked text =
    with_rest (prints_over asked.number asked.at (take asked.text text)) []
    (drop asked.text text)
