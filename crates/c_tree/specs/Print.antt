-- To be believed: the text of the tree. Marks print nothing.
use Rattle.std.specs.Prelude.{ℕ, suc, ◌-◌, ◌%◌, cond, List, [], ◌∷◌, eqb, leb}
use Prim.Native.String.{String}
use Rattle.armv4t.specs.Bit0.{clear_bit0}
use Rattle.base_text.specs.Doc.{Doc, nothing, raw, text, dec, hex, hex8, hex16, ◌▸◌, hexadecimal8}
use Rattle.base_text.specs.Doc.{each, spaces}
use Rattle.c_tree.specs.Expr.{Ty, s8, s16, s32, u32, s64, u64, Style, word, caps, uhex, udec}
use Rattle.c_tree.specs.Expr.{int, Name, x-r, x-base, x-ob, x-addr, x-t, x-s, x-cn, x-cz}
use Rattle.c_tree.specs.Expr.{x-cc, x-cv, x-pc, x-v, x-n, x-a, x-b, x-cin, x-w, Var, Place}
use Rattle.c_tree.specs.Expr.{reg, var, Un, compl, lnot, operator, Width, w8, w16, w32, Expr}
use Rattle.c_tree.specs.Expr.{lit, get, par, un, bin, or_line, cast, pick, ror, read}
use Rattle.c_tree.specs.Stmt.{Set, is, plus, and, or, Proc, f-nz, f-c, f-nz64, Plain}
use Rattle.c_tree.specs.Stmt.{registers, local, declare, adds, set, discard, run, write, tick}
use Rattle.c_tree.specs.Stmt.{Test, guard, gate, other, Simple, gap, record_mark, plain, label}
use Rattle.c_tree.specs.Stmt.{goto, ret, ret_if, interp, ret_interp, call, switch, Code, end}
use Rattle.c_tree.specs.Stmt.{◌⨾◌, when, braces, Helper, ror32, op-adds, proc, params, Head}
use Rattle.c_tree.specs.Stmt.{helper, block, group, Top, opening, function, blank, extern}
use Rattle.c_tree.specs.Stmt.{table, count}
use Rattle.c_tree.specs.Opening.{opening_text}

-- the names of the types
abbrev pub ty_name : Ty → String
ty_name s8 = "int8_t"
ty_name s16 = "int16_t"
ty_name s32 = "int32_t"
ty_name u32 = "uint32_t"
ty_name s64 = "int64_t"
ty_name u64 = "uint64_t"

-- small letters made capital
abbrev pub upper : List ℕ → List ℕ
upper [] = []
upper (d ∷ ds) = cond (leb 97 d) (d - 32) d ∷ upper ds

-- a constant
abbrev pub constant_text : Style → ℕ → Doc
constant_text word n = text "0x" ▸ hex8 n ▸ text "u"
constant_text caps n = text "0x" ▸ raw (upper (hexadecimal8 n)) ▸ text "u"
constant_text uhex n = text "0x" ▸ hex n ▸ text "u"
constant_text udec n = dec n ▸ text "u"
constant_text int n = dec n

-- the names of the locals
abbrev pub name : Name → String
name x-r = "r"
name x-base = "base"
name x-ob = "ob"
name x-addr = "addr"
name x-t = "t"
name x-s = "s_"
name x-cn = "cn"
name x-cz = "cz"
name x-cc = "cc"
name x-cv = "cv"
name x-pc = "pc"
name x-v = "v"
name x-n = "n"
name x-a = "a"
name x-b = "b"
name x-cin = "cin"
name x-w = "w"

-- a local with its type before it
abbrev pub typed : Var → Doc
typed x = text (ty_name x.0) ▸ text " " ▸ text (name x.1)

-- a register, or the name of a local
abbrev pub place_text : Place → Doc
place_text (reg n) = text "c[" ▸ dec n ▸ text "]"
place_text (var x) = text (name x.1)

-- the unary operators
abbrev pub un_text : Un → String
un_text compl = "~"
un_text lnot = "!"

-- the number in the name of a read or a write
abbrev pub bits : Width → String
bits w8 = "8"
bits w16 = "16"
bits w32 = "32"

-- an expression
abbrev pub expr_text : Expr → Doc
expr_text (lit s n) = constant_text s n
expr_text (get p) = place_text p
expr_text (par e) = text "(" ▸ expr_text e ▸ text ")"
expr_text (un o e) = text (un_text o) ▸ expr_text e
expr_text (bin o d e) = expr_text d ▸ text (operator o).0 ▸ expr_text e
expr_text (or_line d e) = expr_text d ▸ text "\n        | " ▸ expr_text e
expr_text (cast y e) = text "(" ▸ text (ty_name y) ▸ text ")" ▸ expr_text e
expr_text (pick c d e) = expr_text c ▸ text " ? " ▸ expr_text d ▸ text " : " ▸ expr_text e
expr_text (ror d e) = text "ror32(" ▸ expr_text d ▸ text ", " ▸ expr_text e ▸ text ")"
expr_text (read w e) = text "a->read" ▸ text (bits w) ▸ text "(m, " ▸ expr_text e ▸ text ")"

-- the assignments, with the white space around them
abbrev pub set_text : Set → String
set_text is = " = "
set_text plus = " += "
set_text and = " &= "
set_text or = " |= "

-- the names of the functions that set flags
abbrev pub proc_name : Proc → String
proc_name f-nz = "f_nz"
proc_name f-c = "f_c"
proc_name f-nz64 = "f_nz64"

-- a declarator after the first
abbrev pub declarator : Name × Expr → Doc
declarator p = text ", " ▸ text (name p.0) ▸ text " = " ▸ expr_text p.1

-- a plain statement without its `;`
abbrev pub plain_text : Plain → Doc
plain_text registers = text "uint32_t* c = (uint32_t*)m"
plain_text (local x) = typed x
plain_text (declare x e ds) = typed x ▸ text " = " ▸ expr_text e ▸ each declarator ds
plain_text (adds x d e f) = typed (u32, x) ▸ text " = op_adds(c, " ▸ expr_text d ▸ text ", "
    ▸ expr_text e ▸ text ", " ▸ expr_text f ▸ text ")"
plain_text (set p o e) = place_text p ▸ text (set_text o) ▸ expr_text e
plain_text (discard x) = text "(void)" ▸ text (name x.1)
plain_text (run p e) = text (proc_name p) ▸ text "(c, " ▸ expr_text e ▸ text ")"
plain_text (write w d e) =
    text "a->write" ▸ text (bits w) ▸ text "(m, " ▸ expr_text d ▸ text ", " ▸ expr_text e ▸ text ")"
plain_text (tick n) = text "a->tick(m, " ▸ dec n ▸ text "u)"

-- address and instruction set of a key: 08000000_a, or _t for Thumb
abbrev pub key_text : ℕ → Doc
key_text k = hex8 (clear_bit0 k) ▸ text (cond (eqb (k % 2) 1) "_t" "_a")

-- what a condition tests, without a `!` before it
abbrev pub test_text : Test → Doc
test_text (guard a l h) =
    text "a->guard(m, 0x" ▸ hex8 a ▸ text "u, " ▸ dec l ▸ text "u, 0x" ▸ hex16 h ▸ text "ull)"
test_text gate = text "a->chain_gate(m)"
test_text (other e) = expr_text e

-- the cases of a switch, counted from n
abbrev pub cases_text : ℕ → List ℕ → Doc
cases_text n [] = nothing
cases_text n (k ∷ ks) =
    text "    case " ▸ dec n ▸ text "u: goto L_" ▸ key_text k ▸ text ";\n" ▸ cases_text (suc n) ks

-- a statement without braces
abbrev pub simple_text : Simple → Doc
simple_text (gap l n) = text (cond l "\n" "") ▸ spaces n
simple_text (record_mark k i n) = nothing
simple_text (plain o p) = plain_text p ▸ text ";"
simple_text (label k) = text "L_" ▸ key_text k ▸ text ":;"
simple_text (goto o k) = text "goto L_" ▸ key_text k ▸ text ";"
simple_text (ret o e) = text "return " ▸ expr_text e ▸ text ";"
simple_text (ret_if o t e) = text "if (" ▸ test_text t ▸ text ") return " ▸ expr_text e ▸ text ";"
simple_text (interp k i) = text "pc = a->interp_one(m);"
simple_text (ret_interp k i) = text "return a->interp_one(m);"
simple_text (call k n) = text "return g_" ▸ hex8 k ▸ text "(a, m, " ▸ dec n ▸ text "u);"
simple_text (switch ks) =
    text "switch (entry) {\n" ▸ cases_text 0 ks ▸ text "    default: return 0u;\n    }"

-- statements one after the other
abbrev pub code_text : Code → Doc
code_text end = nothing
code_text (s ⨾ c) = simple_text s ▸ code_text c
code_text (when o n t b c) = text "if (" ▸ text (cond n "!" "") ▸ test_text t ▸ text ") {"
    ▸ code_text b ▸ text "}" ▸ code_text c
code_text (braces b c) = text "{" ▸ code_text b ▸ text "}" ▸ code_text c

-- the parameters of a function, with commas between
abbrev pub typed_list : List Var → Doc
typed_list [] = nothing
typed_list (x ∷ xs) = typed x ▸ each (λ (y : Var). text ", " ▸ typed y) xs

-- the head of a function of PREAMBLE up to its parameters but c
abbrev pub helper_name : Helper → Doc
helper_name ror32 = text "uint32_t ror32("
helper_name op-adds = text "uint32_t op_adds(uint32_t* c, "
helper_name (proc p) = text "void " ▸ text (proc_name p) ▸ text "(uint32_t* c, "

-- the head of a block's function
abbrev pub block_head : ℕ → Doc
block_head k = text "uint32_t b_" ▸ key_text k ▸ text "(const RtApi* a, void* m)"

-- the head of a function
abbrev pub head_text : Head → Doc
head_text (helper h) = text "static inline " ▸ helper_name h ▸ typed_list (params h) ▸ text ")"
head_text (block k) = block_head k
head_text (group k) =
    text "static uint32_t g_" ▸ hex8 k ▸ text "(const RtApi* a, void* m, uint32_t entry)"

-- a row of the table
abbrev pub row_text : ℕ → Doc
row_text k = text "    { 0x" ▸ hex8 k ▸ text "u, b_" ▸ key_text k ▸ text " },\n"

-- a function, an empty line, or a part of the last unit
abbrev pub top_text : Top → Doc
top_text opening = opening_text
top_text (function h c) = head_text h ▸ text " {" ▸ code_text c ▸ text "}\n"
top_text blank = text "\n"
top_text (extern k) = text "extern " ▸ block_head k ▸ text ";\n"
top_text (table ks) =
    text "RCG_EXPORT const RcgBlock rcg_blocks[] = {\n" ▸ each row_text ks ▸ text "};\n"
top_text (count n) = text "RCG_EXPORT const uint64_t rcg_block_count = " ▸ dec n ▸ text ";\n"

-- a unit, or a part of one
abbrev pub unit_text : List Top → Doc
unit_text ts = each top_text ts
