-- The text of PREAMBLE's functions as emit.rs has it, a line for each line, and that their trees
-- print it.
use mathlib.Core.Path.{◌≡◌, refl}
use Prim.Native.Nat.{ℕ}
use mathlib.Core.List.{List}
use lib.ListN.{length}
use Rattle.base_text.specs.Digits.{numeral, last_digits}
use Rattle.base_text.specs.Doc.{Doc, text, ◌▸◌, decimal, hexadecimal8, print}
use Rattle.base_text.specs.Flat.{flat}
use Rattle.c_tree.specs.Opening.{opening_text}
use Rattle.c_tree.specs.Print.{unit_text}
use Rattle.c_tree.specs.Preamble.{preamble}

-- the functions as emit.rs has them
abbrev pub helpers_text : Doc
helpers_text =
    text "static inline uint32_t ror32(uint32_t v, uint32_t n) {\n"
    ▸ text "    n &= 31u;\n"
    ▸ text "    return n ? (v >> n) | (v << (32u - n)) : v;\n"
    ▸ text "}\n"
    ▸ text "static inline void f_nz(uint32_t* c, uint32_t r) {\n"
    ▸ text
    "    c[16] = (c[16] & 0x3FFFFFFFu) | (r & 0x80000000u) | ((r == 0u) ? 0x40000000u : 0u);\n"
    ▸ text "}\n"
    ▸ text "static inline void f_c(uint32_t* c, uint32_t v) {\n"
    ▸ text "    c[16] = (c[16] & ~0x20000000u) | (v ? 0x20000000u : 0u);\n"
    ▸ text "}\n"
    ▸ text "static inline uint32_t op_adds(uint32_t* c, uint32_t a, uint32_t b, uint32_t cin) {\n"
    ▸ text "    uint64_t w = (uint64_t)a + (uint64_t)b + (uint64_t)cin;\n"
    ▸ text "    uint32_t r = (uint32_t)w;\n"
    ▸ text "    c[16] = (c[16] & 0x0FFFFFFFu)\n"
    ▸ text "        | (r & 0x80000000u) | ((r == 0u) ? 0x40000000u : 0u)\n"
    ▸ text "        | ((w >> 32) ? 0x20000000u : 0u)\n"
    ▸ text "        | (((((~(a ^ b)) & (a ^ r)) >> 31) & 1u) ? 0x10000000u : 0u);\n"
    ▸ text "    return r;\n"
    ▸ text "}\n"
    ▸ text "static inline void f_nz64(uint32_t* c, uint64_t r) {\n"
    ▸ text "    c[16] = (c[16] & 0x3FFFFFFFu) | ((uint32_t)(r >> 32) & 0x80000000u)\n"
    ▸ text "        | ((r == 0u) ? 0x40000000u : 0u);\n"
    ▸ text "}\n"

-- PREAMBLE is printed, in front of any other text, which is what `Wrote-as` asks
pub preamble_text : (k : List ℕ) → flat (unit_text preamble) k ≡ flat (opening_text ▸ helpers_text) k
unfolding decimal numeral hexadecimal8 last_digits
preamble_text k = refl

-- two long dashes have three bytes each
pub preamble_length : length (print (unit_text preamble)) ≡ 2109
unfolding print decimal numeral hexadecimal8 last_digits
preamble_length = refl
