-- Steps: heads and ends of functions, of the switch and of the table, which no tree prints alone.
use Rattle.std.specs.Prelude.{ℕ}
use Rattle.base_text.specs.Doc.{Doc, text, ◌▸◌}
use Rattle.c_tree.specs.Stmt.{end, ◌⨾◌, block, group, blank}
use Rattle.c_tree.specs.Print.{code_text, head_text, top_text}
use Rattle.lower_units.specs.Block.{nl, sp}
use Rattle.lower_units.specs.Units.{with_locals}

-- the head of a block's function, with c and pc
abbrev pub block_open : ℕ → Doc
block_open key = head_text (block key) ▸ text " {" ▸ code_text (with_locals end)

-- the end of a function of a block or a group
abbrev pub function_end : Doc
function_end = text "}\n" ▸ top_text blank

-- the head of a group's function up to its first case
abbrev pub group_open : ℕ → Doc
group_open key = head_text (group key) ▸ text " {" ▸ code_text (with_locals (sp 4 ⨾ end))
    ▸ text "switch (entry) {\n"

-- the end of the switch
abbrev pub switch_end : Doc
switch_end = text "    default: return 0u;\n    }" ▸ code_text (nl ⨾ end)

-- the head of the table
abbrev pub table_open : Doc
table_open = text "RCG_EXPORT const RcgBlock rcg_blocks[] = {\n"

-- its end
abbrev pub table_end : Doc
table_end = text "};\n"
