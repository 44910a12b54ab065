-- Examples: texts of emit.rs, computed, and what C's grammar makes of them.
use Rattle.std.specs.Prelude.{ℕ, ◌≡◌, refl, true, false, List, [], ◌∷◌}
use Rattle.base_text.specs.Digits.{numeral, last_digits}
use Rattle.base_text.specs.Doc.{text, dec, ◌▸◌, decimal, hexadecimal8, hexadecimal16, print}
use Rattle.base_text.specs.Flat.{flat}
use Rattle.c_tree.specs.Expr.{u32, word, udec, int, x-r, x-s, x-cn, x-cz, x-cc, x-cv, x-pc}
use Rattle.c_tree.specs.Expr.{reg, lnot, shl, shr, band, ne, land, Expr, lit, get, par, un}
use Rattle.c_tree.specs.Expr.{bin}
use Rattle.c_tree.specs.Stmt.{is, f-nz, f-c, Plain, registers, local, declare, set, discard}
use Rattle.c_tree.specs.Stmt.{run, tick, guard, gate, other, native_of, common, gap}
use Rattle.c_tree.specs.Stmt.{record_mark}
use Rattle.c_tree.specs.Stmt.{plain, label, goto, ret, ret_if, interp, ret_interp, call, switch}
use Rattle.c_tree.specs.Stmt.{Code, end, ◌⨾◌, when, braces, block, group, Top, function}
use Rattle.c_tree.specs.Stmt.{blank, extern, table, count}
use Rattle.c_tree.specs.Print.{expr_text, code_text, unit_text}
use Rattle.c_tree.specs.Binds.{level, binds, declarators_bind, plain_binds, test_binds}
use Rattle.c_tree.specs.Binds.{simple_binds, code_binds}
use Rattle.c_tree.specs.Preamble.{v32}

-- a statement for a native record of the block at 0x02000000, in a new line
abbrev line : ℕ → Plain → Code → Code
line n p c = gap true n ⨾ plain (native_of 0x02000000) p ⨾ c

-- (e >> n) & 1u
abbrev bit : ℕ → Expr
bit n = bin band (par (bin shr (v32 x-s) (lit int n))) (lit udec 1)

-- ands r0, r1, r2, lsl #3, if HI
abbrev ands : Code
ands =
    record_mark 0x02000000 0 1
    ⨾ gap false 4
    ⨾ braces
    (gap false 1
    ⨾ plain (native_of 0x02000000) (declare (u32, x-s) (get (reg 16)) [])
    ⨾ gap false 1
    ⨾ plain (native_of 0x02000000)
    (declare (u32, x-cn) (bin shr (v32 x-s) (lit int 31))
    ((x-cz, bit 30) ∷ (x-cc, bit 29) ∷ (x-cv, bit 28) ∷ []))
    ⨾ gap true 6
    ⨾ when (native_of 0x02000000) false (other (bin land (v32 x-cc) (un lnot (v32 x-cz))))
    (line 8 (declare (u32, x-r)
    (par (bin band (get (reg 1)) (par (bin shl (get (reg 2)) (lit udec 3))))) [])
    (line 8 (run f-nz (v32 x-r))
    (line 8 (run f-c (par (bin band (par (bin shr (get (reg 2)) (lit udec 29))) (lit udec 1))))
    (line 8 (set (reg 0) is (v32 x-r)) (gap true 6 ⨾ end)))))
    (gap false 1 ⨾ end))
    (gap true 0 ⨾ end)

ands_text : print (code_text ands)
    ≡ print
    (text
    "    { uint32_t s_ = c[16]; uint32_t cn = s_ >> 31, cz = (s_ >> 30) & 1u, cc = (s_ >> 29) & 1u, cv = (s_ >> 28) & 1u;\n      if (cc && !cz) {\n        uint32_t r = (c[1] & (c[2] << 3u));\n        f_nz(c, r);\n        f_c(c, ((c[2] >> 29u) & 1u));\n        c[0] = r;\n      } }\n")
unfolding print decimal numeral
ands_text = refl

ands_binds : code_binds false ands ≡ true
unfolding level binds declarators_bind plain_binds test_binds simple_binds code_binds
ands_binds = refl

-- `    a->tick(m, {}u);` for any number, printed in front of any text
tick_text : (n : ℕ) (k : List ℕ)
    → flat (code_text (gap false 4 ⨾ plain common (tick n) ⨾ gap true 0 ⨾ end)) k
    ≡ flat (text "    a->tick(m, " ▸ dec n ▸ text "u);\n") k
tick_text n k = refl

-- of two trees with one text, C's grammar reads the one that binds: << binds tighter than &
abbrev masked : Expr
masked = bin band (get (reg 1)) (bin shl (get (reg 2)) (lit udec 3))

abbrev shifted : Expr
shifted = bin shl (bin band (get (reg 1)) (get (reg 2))) (lit udec 3)

one_text : print (expr_text masked) ≡ print (expr_text shifted)
unfolding print decimal numeral
one_text = refl

masked_binds : binds false masked ≡ true
unfolding level binds
masked_binds = refl

shifted_binds_not : binds false shifted ≡ false
unfolding level binds
shifted_binds_not = refl

-- a guarded block at 0x02000000 with no record but one for the interpreter, and the closing
-- transfer
abbrev lone : List Top
lone =
    function (block 0x02000000)
    (gap true 4
    ⨾ plain common registers
    ⨾ gap true 4
    ⨾ plain common (local (u32, x-pc))
    ⨾ gap false 1
    ⨾ plain common (discard (u32, x-pc))
    ⨾ gap true 4
    ⨾ when common true (guard 0x02000000 4 0x12ab)
    (gap false 1 ⨾ plain common (set (reg 15) is (lit word 0x02000000)) ⨾ gap false 1
    ⨾ ret_interp 0x02000000 0 ⨾ gap false 1 ⨾ end)
    (gap true 4
    ⨾ plain common (set (reg 15) is (lit word 0x02000000))
    ⨾ gap true 4
    ⨾ interp 0x02000000 0
    ⨾ gap false 1
    ⨾ ret_if common (other (bin ne (v32 x-pc) (lit word 0x02000004))) (v32 x-pc)
    ⨾ gap true 4
    ⨾ plain common (tick 3)
    ⨾ gap true 4
    ⨾ ret common (lit word 0x02000004)
    ⨾ gap true 0
    ⨾ end))
    ∷ blank
    ∷ []

lone_text : print (unit_text lone)
    ≡ print
    (text
    "uint32_t b_02000000_a(const RtApi* a, void* m) {\n    uint32_t* c = (uint32_t*)m;\n    uint32_t pc; (void)pc;\n    if (!a->guard(m, 0x02000000u, 4u, 0x00000000000012abull)) { c[15] = 0x02000000u; return a->interp_one(m); }\n    c[15] = 0x02000000u;\n    pc = a->interp_one(m); if (pc != 0x02000004u) return pc;\n    a->tick(m, 3u);\n    return 0x02000004u;\n}\n\n")
unfolding print decimal numeral hexadecimal8 hexadecimal16 last_digits
lone_text = refl

-- a group of two, the second in Thumb, with a gated goto, and the end of the last unit
abbrev pair : List Top
pair =
    function (group 0x08000100)
    (gap true 4
    ⨾ switch (0x08000100 ∷ 0x08000105 ∷ [])
    ⨾ gap true 0
    ⨾ label 0x08000100
    ⨾ gap true 4
    ⨾ ret_if (native_of 0x08000100) gate (lit word 0x08000100)
    ⨾ gap true 4
    ⨾ goto (native_of 0x08000100) 0x08000100
    ⨾ gap true 0
    ⨾ gap true 0
    ⨾ end)
    ∷ blank
    ∷ function (block 0x08000105) (gap false 1 ⨾ call 0x08000100 1 ⨾ gap false 1 ⨾ end)
    ∷ blank
    ∷ extern 0x08000105
    ∷ table (0x08000100 ∷ 0x08000105 ∷ [])
    ∷ count 2
    ∷ []

pair_text : print (unit_text pair)
    ≡ print
    (text
    "static uint32_t g_08000100(const RtApi* a, void* m, uint32_t entry) {\n    switch (entry) {\n    case 0u: goto L_08000100_a;\n    case 1u: goto L_08000104_t;\n    default: return 0u;\n    }\nL_08000100_a:;\n    if (a->chain_gate(m)) return 0x08000100u;\n    goto L_08000100_a;\n\n}\n\nuint32_t b_08000104_t(const RtApi* a, void* m) { return g_08000100(a, m, 1u); }\n\nextern uint32_t b_08000104_t(const RtApi* a, void* m);\nRCG_EXPORT const RcgBlock rcg_blocks[] = {\n    { 0x08000100u, b_08000100_a },\n    { 0x08000105u, b_08000104_t },\n};\nRCG_EXPORT const uint64_t rcg_block_count = 2;\n")
unfolding print decimal numeral hexadecimal8 last_digits
pair_text = refl
