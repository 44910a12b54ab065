-- Steps: parts of a tree's text that no tree prints alone, which stand before and after what
-- another function writes.
use Rattle.std.specs.Prelude.{ℕ, Bool, true, cond}
use Rattle.base_text.specs.Doc.{Doc, text, ◌▸◌}
use Rattle.c_tree.specs.Stmt.{common, gap, end, ◌⨾◌}
use Rattle.c_tree.specs.Print.{code_text}
use Rattle.lower_forms.specs.Operands.{flags}
use Rattle.lower_units.specs.Block.{nl, sp, line}

-- the indent of a transfer: 8 where it is conditional
abbrev pub indent : Bool → ℕ
indent deep = cond deep 8 4

-- the brace before lines that have no condition
abbrev pub straight_open : Doc
straight_open = code_text (sp 4 ⨾ end) ▸ text "{" ▸ code_text (nl ⨾ end)

-- the brace after them
abbrev pub straight_end : Doc
straight_end = code_text (sp 4 ⨾ end) ▸ text "}" ▸ code_text (nl ⨾ end)

-- { flags; if (
abbrev pub before_condition : Doc
before_condition = code_text (sp 4 ⨾ end) ▸ text "{"
    ▸ code_text (sp 1 ⨾ line common flags (gap true 6 ⨾ end)) ▸ text "if ("

-- ) {, after the condition
abbrev pub after_condition : Doc
after_condition = text ") {"

-- the two braces after what is conditional
abbrev pub after_conditional : Doc
after_conditional = text "}" ▸ code_text (sp 1 ⨾ end) ▸ text "}" ▸ code_text (nl ⨾ end)

-- `) {` and a line end, after the condition of lines
abbrev pub straight_if_open : Doc
straight_if_open = after_condition ▸ code_text (nl ⨾ end)

-- the braces after such lines
abbrev pub straight_if_end : Doc
straight_if_end = code_text (sp 6 ⨾ end) ▸ after_conditional
