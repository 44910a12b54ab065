-- A whole unit, as the original wrote it, PREAMBLE and its newline apart: a guarded block, one
-- without code bytes, a group with a gated loop, an unfused half at a block's end, a fused pair and
-- a lone block.
use Prim.Native.Nat.{ℕ}
use mathlib.Core.Bool.{Bool, true, false}
use mathlib.Core.List.{List, [], ◌∷◌, ◌++◌, map}
use mathlib.Core.Option.{none, some}
use mathlib.Core.Path.{◌≡◌, refl}
use Rattle.armv4t.specs.declared.AluOp.TheVariants.{Mov}
use Rattle.armv4t.specs.declared.Cond.{Cond}
use Rattle.armv4t.specs.declared.Cond.TheVariants.{Eq, Al}
use Rattle.armv4t.specs.declared.Op.{Op}
use Rattle.armv4t.specs.declared.Op.TheVariants.{Alu, Bx, Branch, ThumbBlHigh, ThumbBlLow, Swi}
use Rattle.armv4t.specs.declared.Operand2.{Operand2}
use Rattle.armv4t.specs.declared.Shift.{Shift}
use Rattle.armv4t.specs.declared.ShiftKind.TheVariants.{Lsl}
use Rattle.armv4t.specs.Fused.{fuse}
use Rattle.file_instrs.specs.declared.decode.TimedInstr.{TimedInstr}
use Rattle.file_blocks.specs.Parse.{Block}
use Rattle.base_text.specs.Digits.{numeral, last_digits}
use Rattle.base_text.specs.Doc.{text, decimal, hexadecimal, hexadecimal8, hexadecimal16, print}
use Rattle.file_keys.specs.Order.{insert, sort_by_key}
use Rattle.plan_groups.specs.Limit.{part_limit}
use Rattle.plan_exits.specs.Exits.{exits, instr_exits}
use Rattle.base_forest.specs.Roots.{follow}
use Rattle.plan_search.specs.Target.{target}
use Rattle.plan_groups.specs.Plan.{join_exits, join_blocks, parents, with_root}
use Rattle.plan_groups.specs.Plan.{parts, groups_from, groups}
use Rattle.base_hash.specs.Fnv.{hash_multiplier, fnv_from, fnv64}
use Rattle.lower_forms.specs.Block.{emit_instr, emit_instrs, body_of}
use Rattle.lower_forms.specs.InlineBody.{inline_body}
use Rattle.lower_units.specs.Block.{goto_code, transfer, closing, native_text, code_from}
use Rattle.lower_units.specs.Block.{under_guard, block_code}
use Rattle.file_blocks.specs.Address.{outside_rom_bios}
use Rattle.lower_units.specs.Units.{with_locals, emit_block, labelled, group_code, forwarders}
use Rattle.lower_units.specs.Units.{emit_group, unit_head, last_unit_end, unit_values, text_of, cut}
use Rattle.lower_units.specs.Units.{TranslationUnit, UnitValues, bodies_of, emit_c_chunked}
use Rattle.lower_units.specs.Units.{units_by}
use Rattle.lower_units.specs.Units.{units}

timed : ℕ → Bool → Cond → Op → ℕ → TimedInstr
timed at thumb k op cost =
    record { instr = record { addr = at; cond = k; op = op; thumb = thumb }; cost = cost }

blocks : List Block
blocks =
    record {
      addr = 0x02000000;
      thumb = false;
      code = some (1 ∷ 0 ∷ 160 ∷ 225 ∷ 0 ∷ 0 ∷ 0 ∷ 239 ∷ []);
      instrs =
          timed 0x02000000 false Al (Alu Mov false 0 0 (Operand2.Reg 1 (Shift.Imm Lsl 0))) 1
          ∷ timed 0x02000004 false Al (Swi 0) 1 ∷ [];
    }
    ∷ record {
      addr = 0x02000010;
      thumb = false;
      code = none;
      instrs =
          timed 0x02000010 false Al (Alu Mov false 0 0 (Operand2.Reg 1 (Shift.Imm Lsl 0))) 2 ∷ [];
    }
    ∷ record {
      addr = 0x08000100;
      thumb = false;
      code = none;
      instrs =
          timed 0x08000100 false Eq (Branch false 0x08000100) 3
          ∷ timed 0x08000104 false Al (Alu Mov false 0 0 (Operand2.Reg 1 (Shift.Imm Lsl 0))) 1
          ∷ timed 0x08000108 false Al (Branch false 0x08000104) 3 ∷ [];
    }
    ∷ record {
      addr = 0x08000104;
      thumb = false;
      code = none;
      instrs = timed 0x08000104 false Al (Swi 0) 1 ∷ [];
    }
    ∷ record {
      addr = 0x08000200;
      thumb = true;
      code = none;
      instrs =
          timed 0x08000200 true Al (Alu Mov false 0 0 (Operand2.Reg 1 (Shift.Imm Lsl 0))) 1
          ∷ timed 0x08000202 true Al (ThumbBlHigh 0x08000204) 1 ∷ [];
    }
    ∷ record {
      addr = 0x08000220;
      thumb = true;
      code = none;
      instrs =
          timed 0x08000220 true Al (ThumbBlHigh 0x08000224) 1
          ∷ timed 0x08000222 true Al (ThumbBlLow 3) 2 ∷ [];
    }
    ∷ record {
      addr = 0x08000300;
      thumb = false;
      code = none;
      instrs =
          timed 0x08000300 false Al (Alu Mov false 0 0 (Operand2.Reg 1 (Shift.Imm Lsl 0))) 1
          ∷ timed 0x08000304 false Al (Bx 14) 3 ∷ [];
    }
    ∷ []

-- what is answered of a unit, and its text
abbrev told : TranslationUnit → UnitValues × List ℕ
told u = (unit_values u, text_of u.tree)

whole : map told (units hash_multiplier part_limit 1_000_000 blocks)
    ≡ (
      record { length = 5074; done = 7; last = true },
      text_of unit_head
          ++ print
          (text
          "uint32_t b_02000000_a(const RtApi* a, void* m) {\n    uint32_t* c = (uint32_t*)m;\n    uint32_t pc; (void)pc;\n    if (!a->guard(m, 0x02000000u, 8u, 0x9adcbb76ba537e76ull)) { c[15] = 0x02000000u; return a->interp_one(m); }\n    {\n        uint32_t r = c[1];\n        c[0] = r;\n    }\n    a->tick(m, 1u);\n    c[15] = 0x02000004u;\n    return a->interp_one(m);\n}\n\nuint32_t b_02000010_a(const RtApi* a, void* m) {\n    uint32_t* c = (uint32_t*)m;\n    uint32_t pc; (void)pc;\n    c[15] = 0x02000010u; return a->interp_one(m);\n}\n\nstatic uint32_t g_08000100(const RtApi* a, void* m, uint32_t entry) {\n    uint32_t* c = (uint32_t*)m;\n    uint32_t pc; (void)pc;\n    switch (entry) {\n    case 0u: goto L_08000100_a;\n    case 1u: goto L_08000104_a;\n    default: return 0u;\n    }\nL_08000100_a:;\n    a->tick(m, 3u);\n    { uint32_t s_ = c[16]; uint32_t cn = s_ >> 31, cz = (s_ >> 30) & 1u, cc = (s_ >> 29) & 1u, cv = (s_ >> 28) & 1u;\n      if (cz) { c[15] = 0x08000100u;\n        if (a->chain_gate(m)) return 0x08000100u;\n        goto L_08000100_a;\n      } }\n    {\n        uint32_t r = c[1];\n        c[0] = r;\n    }\n    a->tick(m, 4u);\n    c[15] = 0x08000104u;\n    goto L_08000104_a;\n\nL_08000104_a:;\n    c[15] = 0x08000104u;\n    return a->interp_one(m);\n\n}\n\nuint32_t b_08000100_a(const RtApi* a, void* m) { return g_08000100(a, m, 0u); }\nuint32_t b_08000104_a(const RtApi* a, void* m) { return g_08000100(a, m, 1u); }\n\nuint32_t b_08000200_t(const RtApi* a, void* m) {\n    uint32_t* c = (uint32_t*)m;\n    uint32_t pc; (void)pc;\n    {\n        uint32_t r = c[1];\n        c[0] = r;\n    }\n    a->tick(m, 1u);\n    c[15] = 0x08000202u;\n    return a->interp_one(m);\n    c[15] = 0x08000204u;\n    return 0x08000205u;\n}\n\nuint32_t b_08000220_t(const RtApi* a, void* m) {\n    uint32_t* c = (uint32_t*)m;\n    uint32_t pc; (void)pc;\n    a->tick(m, 3u);\n    c[14] = 0x08000225u;\n    c[15] = 0x0800022au;\n    return 0x0800022bu;\n}\n\nuint32_t b_08000300_a(const RtApi* a, void* m) {\n    uint32_t* c = (uint32_t*)m;\n    uint32_t pc; (void)pc;\n    {\n        uint32_t r = c[1];\n        c[0] = r;\n    }\n    a->tick(m, 4u);\n    { uint32_t t = c[14];\n      if (t & 1u) { c[16] |= 0x20u; c[15] = t & ~1u; return (t & ~1u) | 1u; }\n      c[16] &= ~0x20u; c[15] = t & ~3u; return t & ~3u; }\n}\n\nextern uint32_t b_02000000_a(const RtApi* a, void* m);\nextern uint32_t b_02000010_a(const RtApi* a, void* m);\nextern uint32_t b_08000100_a(const RtApi* a, void* m);\nextern uint32_t b_08000104_a(const RtApi* a, void* m);\nextern uint32_t b_08000200_t(const RtApi* a, void* m);\nextern uint32_t b_08000220_t(const RtApi* a, void* m);\nextern uint32_t b_08000300_a(const RtApi* a, void* m);\nRCG_EXPORT const RcgBlock rcg_blocks[] = {\n    { 0x02000000u, b_02000000_a },\n    { 0x02000010u, b_02000010_a },\n    { 0x08000100u, b_08000100_a },\n    { 0x08000104u, b_08000104_a },\n    { 0x08000201u, b_08000200_t },\n    { 0x08000221u, b_08000220_t },\n    { 0x08000300u, b_08000300_a },\n};\nRCG_EXPORT const uint64_t rcg_block_count = 7;\n"),
    )
    ∷ []
unfolding blocks timed fuse fnv64 fnv_from body_of emit_instrs emit_instr inline_body block_code
    outside_rom_bios under_guard code_from native_text transfer goto_code closing emit_c_chunked units_by cut
    bodies_of last_unit_end text_of emit_group emit_block labelled group_code forwarders with_locals print
    decimal numeral hexadecimal hexadecimal8 hexadecimal16 last_digits groups groups_from parts
    sort_by_key insert with_root parents join_blocks join_exits target follow exits instr_exits
whole = refl
