-- `emit_tables::opening::put_preamble` meets its contract: what its calls write, one after another.
-- Assumes nothing.
use mathlib.Core.Path.{◌≡◌, sym, ◌∙◌}
use mathlib.Core.List.{[], ◌∷◌}
use Rattle.base_text.specs.Doc.{text, ◌▸◌}
use Rattle.base_text.specs.Flat.{flat}
use Rattle.base_text.proofs.Laws.{each_append, wrote_as}
use Rattle.c_tree.specs.Stmt.{blank}
use Rattle.c_tree.specs.Print.{top_text, unit_text}
use Rattle.c_tree.specs.Opening.{opening_text}
use Rattle.c_tree.specs.Preamble.{preamble}
use Rattle.c_tree.proofs.Preamble.{helpers_text, preamble_text}
use Rattle.lower_units.specs.Units.{unit_head}
use Rattle.emit_tables.proofs.opening.put_preamble.Goals as goal

-- PREAMBLE and a line end
head_text_lem : flat (opening_text ▸ helpers_text ▸ text "\n") [] ≡ flat (unit_text unit_head) []
head_text_lem = sym (preamble_text (flat (text "\n") [])) ∙ each_append top_text preamble (blank ∷ []) []

pub returns : goal.returns
returns c =
    wrote_as c.put.ensures head_text_lem
