-- Steps: the lines that an instruction is lowered to, and what stands around the terms of a sum.
use Rattle.std.specs.Prelude.{◌≡◌, ℕ, Bool, cond, List}
use Rattle.base_text.specs.Doc.{Doc, text}
use Rattle.base_text.specs.Flat.{flat}
use Rattle.c_tree.specs.Stmt.{Plain}
use Rattle.lower_forms.specs.InlineBody.{each_on_line}
use Rattle.lower_units.specs.Lines.{lines_text}

-- statements in lines of their own, as text
abbrev pub statements_text : List Plain → Doc
statements_text ps = lines_text 8 (each_on_line ps)

-- what stands before the terms of a sum, which sets flags or not
abbrev pub before : Bool → Doc
before s = text (cond s "        uint32_t r = op_adds(c, " "        uint32_t r = ")

-- what stands between two terms
abbrev pub between : Bool → Doc
between s = text (cond s ", " " + ")

-- what stands after the last term
abbrev pub after : Bool → Doc
after s = text (cond s ");\n" ";\n")

-- two docs of the same bytes, whatever stands after them
abbrev pub SameText : Doc → Doc → Type 0
SameText d e = (k : List ℕ) → flat d k ≡ flat e k
