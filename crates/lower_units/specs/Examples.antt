-- Examples: texts that the original printed, computed: a block or group by itself, and how many
-- units there are. The records are written as forms.
use Rattle.std.specs.Prelude.{ℕ, ◌≡◌, refl, Bool, true, false, List, [], ◌∷◌, ◌++◌, map, leb, length, replicate}
use Rattle.std.proofs.Common.{zero-le, le-leb}
use Rattle.std.proofs.Math.Option.{none, some}
use package.native.Mathlib.Omega.{arith}
use Rattle.base_text.specs.Digits.{numeral, last_digits}
use Rattle.base_text.specs.Doc.{text, decimal, hexadecimal, hexadecimal8, hexadecimal16, print}
use Rattle.c_tree.specs.Expr.{u32, word, udec, x-r, x-addr, x-cz, reg, var, lnot, compl, add, band}
use Rattle.c_tree.specs.Expr.{bor, w32, lit, get, un, bin, read}
use Rattle.c_tree.specs.Stmt.{is, plus, declare, set, tick, Simple, gap, record_mark, plain, label}
use Rattle.c_tree.specs.Stmt.{goto, ret, ret_if, interp, ret_interp, call, switch, Code, end, ◌⨾◌}
use Rattle.c_tree.specs.Stmt.{when, braces, Owner, common}
use Rattle.c_tree.specs.Preamble.{v32}
use Rattle.lower_forms.specs.Forms.{Lines, straight, straight_if, branch_if, jump, pair, bx, pop}
use Rattle.lower_forms.specs.Forms.{native, shell, Body}
use Rattle.lower_units.specs.Block.{goto_code, transfer, closing, native_text, code_from}
use Rattle.lower_units.specs.Block.{under_guard, block_code}
use Rattle.file_blocks.specs.Address.{outside_rom_bios}
use Rattle.lower_units.specs.Units.{TranslationUnit, with_locals, emit_block, labelled}
use Rattle.lower_units.specs.Units.{group_code, forwarders, emit_group, text_of, cut, bodies_of}
use Rattle.lower_units.specs.Units.{unit_head, emit_c_chunked}

-- c[15] = a, and that after a tick
abbrev to : ℕ → Lines
to a = (set (reg 15) is (lit word a) ∷ []) ∷ []

abbrev ticked : ℕ → Lines → Lines
ticked n ls = (tick n ∷ []) ∷ ls

-- mov rd, rm
abbrev mov : ℕ → ℕ → Lines
mov d m = (declare (u32, x-r) (get (reg m)) [] ∷ []) ∷ (set (reg d) is (v32 x-r) ∷ []) ∷ []

-- a guarded block: mov, swi, a branch to itself if EQ, mov if NE
abbrev ram : Body
ram =
    record {
      addr = 0x02000000;
      thumb = false;
      count = 4;
      hash = some 0xc29d885477851775;
      forms = native (straight [] (mov 0 1))
          ∷ shell false (ticked 1 (to 0x02000004)) 0x02000008
          ∷ native
          (branch_if (ticked 3 []) (v32 x-cz) (set (reg 15) is (lit word 0x02000000) ∷ [])
          0x02000000)
          ∷ native (straight_if [] (un lnot (v32 x-cz)) (mov 2 3))
          ∷ [];
      pending = 1;
    }

ram_text : text_of (emit_group (ram ∷ []))
    ≡ print
    (text
    "uint32_t b_02000000_a(const RtApi* a, void* m) {\n    uint32_t* c = (uint32_t*)m;\n    uint32_t pc; (void)pc;\n    if (!a->guard(m, 0x02000000u, 16u, 0xc29d885477851775ull)) { c[15] = 0x02000000u; return a->interp_one(m); }\n    {\n        uint32_t r = c[1];\n        c[0] = r;\n    }\n    a->tick(m, 1u);\n    c[15] = 0x02000004u;\n    pc = a->interp_one(m); if (pc != 0x02000008u) return pc;\n    a->tick(m, 3u);\n    { uint32_t s_ = c[16]; uint32_t cn = s_ >> 31, cz = (s_ >> 30) & 1u, cc = (s_ >> 29) & 1u, cv = (s_ >> 28) & 1u;\n      if (cz) { c[15] = 0x02000000u;\n        return 0x02000000u;\n      } }\n    { uint32_t s_ = c[16]; uint32_t cn = s_ >> 31, cz = (s_ >> 30) & 1u, cc = (s_ >> 29) & 1u, cv = (s_ >> 28) & 1u;\n      if (!cz) {\n        uint32_t r = c[3];\n        c[2] = r;\n      } }\n    a->tick(m, 1u);\n    c[15] = 0x02000010u;\n    return 0x02000010u;\n}\n\n")
unfolding text_of emit_group emit_block with_locals block_code outside_rom_bios under_guard code_from
    native_text transfer closing print decimal numeral hexadecimal hexadecimal8 hexadecimal16
    last_digits
ram_text = refl

-- a block without code bytes outside ROM and BIOS: the interpreter alone
abbrev bare : Body
bare =
    record {
      addr = 0x02000010;
      thumb = false;
      count = 1;
      hash = none;
      forms = native (straight [] (mov 0 1)) ∷ [];
      pending = 1;
    }

bare_text : text_of (emit_group (bare ∷ []))
    ≡ print
    (text
    "uint32_t b_02000010_a(const RtApi* a, void* m) {\n    uint32_t* c = (uint32_t*)m;\n    uint32_t pc; (void)pc;\n    c[15] = 0x02000010u; return a->interp_one(m);\n}\n\n")
unfolding text_of emit_group emit_block with_locals block_code outside_rom_bios under_guard code_from
    native_text transfer closing print decimal numeral hexadecimal hexadecimal8 hexadecimal16
    last_digits
bare_text = refl

-- a lone block: mov, bx r14
abbrev lone : Body
lone =
    record {
      addr = 0x08000000;
      thumb = false;
      count = 2;
      hash = none;
      forms = native (straight [] (mov 0 1)) ∷ native (bx (ticked 4 []) (get (reg 14))) ∷ [];
      pending = 0;
    }

lone_text : text_of (emit_group (lone ∷ []))
    ≡ print
    (text
    "uint32_t b_08000000_a(const RtApi* a, void* m) {\n    uint32_t* c = (uint32_t*)m;\n    uint32_t pc; (void)pc;\n    {\n        uint32_t r = c[1];\n        c[0] = r;\n    }\n    a->tick(m, 4u);\n    { uint32_t t = c[14];\n      if (t & 1u) { c[16] |= 0x20u; c[15] = t & ~1u; return (t & ~1u) | 1u; }\n      c[16] &= ~0x20u; c[15] = t & ~3u; return t & ~3u; }\n}\n\n")
unfolding text_of emit_group emit_block with_locals block_code outside_rom_bios under_guard code_from
    native_text transfer closing print decimal numeral hexadecimal hexadecimal8 hexadecimal16
    last_digits
lone_text = refl

-- an unfused half at the end: its shell, and the closing transfer
abbrev half : Body
half =
    record {
      addr = 0x08000200;
      thumb = true;
      count = 1;
      hash = none;
      forms = shell true (to 0x08000200) 0x08000203 ∷ [];
      pending = 0;
    }

half_text : text_of (emit_group (half ∷ []))
    ≡ print
    (text
    "uint32_t b_08000200_t(const RtApi* a, void* m) {\n    uint32_t* c = (uint32_t*)m;\n    uint32_t pc; (void)pc;\n    c[15] = 0x08000200u;\n    return a->interp_one(m);\n    c[15] = 0x08000202u;\n    return 0x08000203u;\n}\n\n")
unfolding text_of emit_group emit_block with_locals block_code outside_rom_bios under_guard code_from
    native_text transfer closing print decimal numeral hexadecimal hexadecimal8 hexadecimal16
    last_digits
half_text = refl

-- pop {r4, pc}
abbrev popped : Body
popped =
    record {
      addr = 0x08000210;
      thumb = true;
      count = 1;
      hash = none;
      forms = native
          (pop (ticked 4 []) (declare (u32, x-addr) (get (reg 13)) [])
          ((set (reg 4) is (read w32 (bin band (v32 x-addr) (un compl (lit udec 3))))
          ∷ set (var (u32, x-addr)) plus (lit udec 4) ∷ [])
          ∷ (set (reg 13) is (bin add (get (reg 13)) (lit udec 8)) ∷ [])
          ∷ [])
          (set (reg 15) is
          (bin band (read w32 (bin band (v32 x-addr) (un compl (lit udec 3))))
          (un compl (lit udec 1)))) (bin bor (get (reg 15)) (lit udec 1)))
          ∷ [];
      pending = 0;
    }

popped_text : text_of (emit_group (popped ∷ []))
    ≡ print
    (text
    "uint32_t b_08000210_t(const RtApi* a, void* m) {\n    uint32_t* c = (uint32_t*)m;\n    uint32_t pc; (void)pc;\n    a->tick(m, 4u);\n    { uint32_t addr = c[13];\n      c[4] = a->read32(m, addr & ~3u); addr += 4u;\n      c[13] = c[13] + 8u;\n      c[15] = a->read32(m, addr & ~3u) & ~1u; return c[15] | 1u; }\n}\n\n")
unfolding text_of emit_group emit_block with_locals block_code outside_rom_bios under_guard code_from
    native_text transfer closing print decimal numeral hexadecimal hexadecimal8 hexadecimal16
    last_digits
popped_text = refl

-- a fused pair
abbrev fused : Body
fused =
    record {
      addr = 0x08000220;
      thumb = true;
      count = 2;
      hash = none;
      forms =
          native (pair (ticked 3 ((set (reg 14) is (lit word 0x08000225) ∷ []) ∷ to 0x0800022a))
          0x0800022b) ∷ [];
      pending = 0;
    }

fused_text : text_of (emit_group (fused ∷ []))
    ≡ print
    (text
    "uint32_t b_08000220_t(const RtApi* a, void* m) {\n    uint32_t* c = (uint32_t*)m;\n    uint32_t pc; (void)pc;\n    a->tick(m, 3u);\n    c[14] = 0x08000225u;\n    c[15] = 0x0800022au;\n    return 0x0800022bu;\n}\n\n")
unfolding text_of emit_group emit_block with_locals block_code outside_rom_bios under_guard code_from
    native_text transfer closing print decimal numeral hexadecimal hexadecimal8 hexadecimal16
    last_digits
fused_text = refl

-- Document 01: a block at 0x08000100 with a branch to 0x08000100, which is gated, and one at
-- 0x08000108 to 0x08000104, which is plain
abbrev loop : Body
loop =
    record {
      addr = 0x08000100;
      thumb = false;
      count = 3;
      hash = none;
      forms =
          native (branch_if (ticked 3 []) (v32 x-cz) (set (reg 15) is (lit word 0x08000100) ∷ [])
          0x08000100)
          ∷ native (straight [] (mov 0 1))
          ∷ native (jump (ticked 4 (to 0x08000104)) 0x08000104)
          ∷ [];
      pending = 0;
    }

-- swi
abbrev swi : Body
swi =
    record {
      addr = 0x08000104;
      thumb = false;
      count = 1;
      hash = none;
      forms = shell false (to 0x08000104) 0x08000108 ∷ [];
      pending = 0;
    }

loop_text : text_of (emit_group (loop ∷ swi ∷ []))
    ≡ print
    (text
    "static uint32_t g_08000100(const RtApi* a, void* m, uint32_t entry) {\n    uint32_t* c = (uint32_t*)m;\n    uint32_t pc; (void)pc;\n    switch (entry) {\n    case 0u: goto L_08000100_a;\n    case 1u: goto L_08000104_a;\n    default: return 0u;\n    }\nL_08000100_a:;\n    a->tick(m, 3u);\n    { uint32_t s_ = c[16]; uint32_t cn = s_ >> 31, cz = (s_ >> 30) & 1u, cc = (s_ >> 29) & 1u, cv = (s_ >> 28) & 1u;\n      if (cz) { c[15] = 0x08000100u;\n        if (a->chain_gate(m)) return 0x08000100u;\n        goto L_08000100_a;\n      } }\n    {\n        uint32_t r = c[1];\n        c[0] = r;\n    }\n    a->tick(m, 4u);\n    c[15] = 0x08000104u;\n    goto L_08000104_a;\n\nL_08000104_a:;\n    c[15] = 0x08000104u;\n    return a->interp_one(m);\n\n}\n\nuint32_t b_08000100_a(const RtApi* a, void* m) { return g_08000100(a, m, 0u); }\nuint32_t b_08000104_a(const RtApi* a, void* m) { return g_08000100(a, m, 1u); }\n\n")
unfolding text_of emit_group emit_block with_locals block_code outside_rom_bios under_guard code_from
    native_text transfer closing print decimal numeral hexadecimal hexadecimal8 hexadecimal16
    last_digits labelled group_code forwarders goto_code
loop_text = refl

-- The marks of a block's text: key, index of the first record, how many
abbrev mark : Simple → List (ℕ × ℕ × ℕ)
mark (gap l n) = []
mark (record_mark k i n) = (k, i, n) ∷ []
mark (plain o p) = []
mark (label k) = []
mark (goto o k) = []
mark (ret o e) = []
mark (ret_if o t e) = []
mark (interp k i) = (k, i, 1) ∷ []
mark (ret_interp k i) = (k, i, 1) ∷ []
mark (call k n) = []
mark (switch ks) = []

abbrev marks : Code → List (ℕ × ℕ × ℕ)
marks end = []
marks (s ⨾ c) = mark s ++ marks c
marks (when o n t b c) = marks b ++ marks c
marks (braces b c) = marks b ++ marks c

-- The owners of a block's statements
abbrev owner : Simple → List Owner
owner (gap l n) = []
owner (record_mark k i n) = []
owner (plain o p) = o ∷ []
owner (label k) = []
owner (goto o k) = o ∷ []
owner (ret o e) = o ∷ []
owner (ret_if o t e) = o ∷ []
owner (interp k i) = []
owner (ret_interp k i) = []
owner (call k n) = []
owner (switch ks) = []

abbrev owners : Code → List Owner
owners end = []
owners (s ⨾ c) = owner s ++ owners c
owners (when o n t b c) = o ∷ owners b ++ owners c
owners (braces b c) = owners b ++ owners c

-- guard and interpreter, straight, shell, branch_if, straight_if, closing
ram_owners : owners (block_code [] ram)
    ≡ replicate 2 common ++ replicate 2 (Owner.native_of 0x02000000) ++ replicate 3 common
    ++ replicate 11 (Owner.native_of 0x02000000) ++ replicate 3 common
unfolding block_code outside_rom_bios under_guard code_from native_text transfer closing
ram_owners = refl

-- straight and bx; a fused pair; pop; branch_if, straight and jump in a group
lone_owners : owners (block_code [] lone) ≡ replicate 11 (Owner.native_of 0x08000000)
unfolding block_code outside_rom_bios code_from native_text
lone_owners = refl

fused_owners : owners (block_code [] fused) ≡ replicate 4 (Owner.native_of 0x08000221)
unfolding block_code outside_rom_bios code_from native_text transfer
fused_owners = refl

popped_owners : owners (block_code [] popped) ≡ replicate 7 (Owner.native_of 0x08000211)
unfolding block_code outside_rom_bios code_from native_text
popped_owners = refl

loop_owners : owners (block_code (0x08000100 ∷ 0x08000104 ∷ []) loop)
    ≡ replicate 12 (Owner.native_of 0x08000100)
unfolding block_code outside_rom_bios code_from native_text transfer goto_code
loop_owners = refl

-- after the guard's no the first record, then the records in their order
ram_marks : marks (block_code [] ram)
    ≡ (0x02000000, 0, 1) ∷ (0x02000000, 0, 1) ∷ (0x02000000, 1, 1) ∷ (0x02000000, 2, 1)
    ∷ (0x02000000, 3, 1) ∷ []
unfolding block_code outside_rom_bios under_guard code_from native_text transfer closing
ram_marks = refl

-- a fused pair is two records
fused_marks : marks (block_code [] fused) ≡ (0x08000221, 0, 2) ∷ []
unfolding block_code outside_rom_bios code_from native_text transfer
fused_marks = refl

-- an unconditional native exit drops what would stand after it
dropped : (c : Code)
    → native_text [] 0x08000000 common (jump (to 8) 8) c
    ≡ native_text [] 0x08000000 common (jump (to 8) 8) end
unfolding native_text
dropped c = refl

-- a block of page 0x18 is of region 8
mirror : outside_rom_bios 0x18000000 ≡ false
unfolding outside_rom_bios
mirror = refl

-- the blocks done at the end of a unit, and whether it is the last
abbrev ends : TranslationUnit → ℕ × Bool
ends u = (u.done, u.last)

zero_leb : (n : ℕ) → leb 0 n ≡ true
zero_leb n = le-leb 0 n zero-le

-- a group of two is done at once
one_pair : (a b : Body)
    → map ends (emit_c_chunked 0 (a ∷ b ∷ []) ((0 ∷ 1 ∷ []) ∷ [])) ≡ (2, false) ∷ (2, true) ∷ []
unfolding emit_c_chunked cut bodies_of
one_pair a b = rw zero_leb

-- a unit is handed on where its length is the wished size
self_leb : (n : ℕ) → leb n n ≡ true
self_leb n = le-leb n n (omega arith)

met : (b : Body)
    → map ends (emit_c_chunked (length (text_of (unit_head ++ emit_group (b ∷ [])))) (b ∷ [])
    ((0 ∷ []) ∷ []))
    ≡ (1, false) ∷ (1, true) ∷ []
unfolding emit_c_chunked cut bodies_of
met b = rw (self_leb (length (text_of (unit_head ++ emit_group (b ∷ [])))))
