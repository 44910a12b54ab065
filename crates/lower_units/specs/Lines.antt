-- Steps: the text of lines of plain statements by themselves.
use Rattle.std.specs.Prelude.{ℕ}
use Rattle.base_text.specs.Doc.{Doc}
use Rattle.c_tree.specs.Stmt.{common, end}
use Rattle.c_tree.specs.Print.{code_text}
use Rattle.lower_forms.specs.Forms.{Lines}
use Rattle.lower_units.specs.Block.{lines}

-- lines at an indent, as text. No owner shows in it, so common stands for any
abbrev pub lines_text : ℕ → Lines → Doc
lines_text n ls = code_text (lines common n ls end)
