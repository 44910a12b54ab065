-- Steps: the lines that are printed, as bytes.
use Rattle.std.specs.Prelude.{ℕ, List, [], ◌∷◌, ◌++◌, codes}
use Rattle.std.specs.Fmt.{decimal}
use Rattle.case_io.specs.declared.section.Section.{Section}

-- the name of a section
abbrev pub name_text : Section → List ℕ
name_text Section.Check = codes "check"
name_text Section.Exits = codes "exits"
name_text Section.Plan = codes "plan"
name_text Section.Measure = codes "measure"
name_text Section.Write = codes "write"
name_text Section.Fronts = codes "fronts"
name_text Section.Lengths = codes "lengths"
name_text Section.Page = codes "page"
name_text Section.Pages = codes "pages"
name_text Section.Reason = codes "reason"
name_text Section.Reasons = codes "reasons"
name_text Section.Decimal = codes "decimal"

-- each number with a space in front
abbrev pub spaced : List ℕ → List ℕ
spaced [] = []
spaced (n ∷ ns) = codes " " ++ (decimal n ++ spaced ns)

-- the start of a line on vector k
abbrev pub vector_text : Section → ℕ → List ℕ
vector_text section k = name_text section ++ (codes " " ++ (decimal k ++ codes ": "))

-- the line on a vector with other numbers than expected
abbrev pub mismatch_line : Section → ℕ → (expected got : List ℕ) → List ℕ
mismatch_line section k expected got =
    vector_text section k
    ++ (codes "expected" ++ (spaced expected ++ (codes ", got" ++ (spaced got ++ codes "\n"))))

-- a place at which a vector expects another number than stands there
abbrev pub place_text : (i expected got : ℕ) → List ℕ
place_text i expected got =
    decimal i ++ (codes ": expected " ++ (decimal expected
    ++ (codes ", got " ++ (decimal got ++ codes "\n"))))

-- the line on a vector of which one number, of a kind, is not the expected one
abbrev pub place_line : (kind : List ℕ) → Section → (k i expected got : ℕ) → List ℕ
place_line kind section k i expected got =
    vector_text section k ++ (kind ++ (codes " " ++ place_text i expected got))

-- the line on a section
abbrev pub total_line : Section → (cases mismatches : ℕ) → List ℕ
total_line section cases mismatches =
    name_text section ++ (codes ": " ++ (decimal cases
    ++ (codes " cases, " ++ (decimal mismatches ++ codes " mismatches\n"))))

-- the line on an input that ends in vector k
abbrev pub early_line : ℕ → List ℕ
early_line k = codes "input ends early at " ++ (decimal k ++ codes "\n")

-- the line on a vector that the buffers do not hold
abbrev pub long_line : ℕ → List ℕ
long_line k = codes "vector " ++ (decimal k ++ codes " is too long\n")

-- the line on an input that goes on
abbrev pub on_line : List ℕ
on_line = codes "input goes on after the last section\n"
