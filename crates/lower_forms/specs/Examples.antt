-- Examples: an instruction of each class, with the lines that emit.rs prints for it, and a saved
-- base as request 2 has it; the forms and cycles of a few blocks, computed.
use Rattle.std.specs.Prelude.{ℕ, ◌≡◌, refl, Bool, true, false, List, [], ◌∷◌}
use Rattle.std.proofs.Math.Option.{Option, none, some}
use Rattle.base_text.specs.Digits.{numeral, last_digits}
use Rattle.base_text.specs.Doc.{Doc, nothing, text, ◌▸◌, decimal, hexadecimal, hexadecimal8, print}
use Rattle.base_text.specs.Doc.{each, spaces}
use Rattle.armv4t.specs.declared.Cond.TheVariants.{Eq, Al}
use Rattle.armv4t.specs.declared.AluOp.TheVariants.{And, Rsb, Sbc, Tst, Mov}
use Rattle.armv4t.specs.declared.ShiftKind.TheVariants.{Lsl, Asr, Ror}
use Rattle.armv4t.specs.declared.Shift.{Shift}
use Rattle.armv4t.specs.declared.Operand2.{Operand2}
use Rattle.armv4t.specs.declared.MemWidth.TheVariants.{Byte, Half, Word}
use Rattle.armv4t.specs.declared.MemOffset.{MemOffset}
use Rattle.armv4t.specs.declared.Op.{Op}
use Rattle.armv4t.specs.declared.Op.TheVariants.{Alu, Mul, MulLong, Bx, Branch, ThumbBlHigh}
use Rattle.armv4t.specs.declared.Op.TheVariants.{ThumbBlLow, Mem, BlockMem, Swi}
use Rattle.armv4t.specs.declared.Instr.{Instr}
use Rattle.armv4t.specs.Fused.{fuse}
use Rattle.file_instrs.specs.declared.decode.TimedInstr.{TimedInstr}
use Rattle.c_tree.specs.Expr.{udec, x-cz, x-addr, reg, compl, add, band, bor, w32, lit, get, un}
use Rattle.c_tree.specs.Expr.{bin, read}
use Rattle.c_tree.specs.Stmt.{Plain, tick}
use Rattle.c_tree.specs.Preamble.{v32}
use Rattle.c_tree.specs.Print.{plain_text}
use Rattle.lower_forms.specs.Forms.{Lines, straight, branch_if, pair, bx, pop, native, shell}
use Rattle.lower_forms.specs.InlineBody.{each_on_line, let32, set_reg, mul_body, aligned, listed}
use Rattle.lower_forms.specs.InlineBody.{advance, block_mem_body, inline_body}
use Rattle.lower_forms.specs.Block.{set_word, emit_instr, emit_instrs}

-- the statements of a line
abbrev line_text : List Plain → Doc
line_text [] = nothing
line_text (p ∷ []) = plain_text p ▸ text ";"
line_text (p ∷ q ∷ ps) = plain_text p ▸ text "; " ▸ line_text (q ∷ ps)

-- the lines of inline_body, at indent 8
abbrev body_text : Option Lines → Doc
body_text none = nothing
body_text (some ls) = each (λ l. spaces 8 ▸ line_text l ▸ text "\n") ls

-- an instruction at 0x08000000 that is Thumb or not, under Al
abbrev always : Bool → Op → Instr
always thumb op = record { addr = 0x0800_0000; cond = Al; op = op; thumb = thumb }

-- ands r0, r1, r2, ror #3
ands : print
    (body_text
    (inline_body false (always false (Alu And true 0 1 (Operand2.Reg 2 (Shift.Imm Ror 3))))))
    ≡ print
    (text
    "        uint32_t r = (c[1] & ror32(c[2], 3u));\n        f_nz(c, r);\n        f_c(c, ((c[2] >> 2u) & 1u));\n        c[0] = r;\n")
unfolding inline_body print decimal numeral
ands = refl

-- sbcs r0, pc, #255
sbcs : print (body_text (inline_body false (always false (Alu Sbc true 0 15 (Operand2.Imm 255 0)))))
    ≡ print (text
    "        uint32_t r = op_adds(c, 0x08000008u, ~0x000000ffu, ((c[16] >> 29) & 1u));\n        c[0] = r;\n")
unfolding inline_body print decimal numeral hexadecimal8 last_digits
sbcs = refl

-- rsb r3, r1, r2, rrx
rsb : print
    (body_text
    (inline_body false (always false (Alu Rsb false 3 1 (Operand2.Reg 2 (Shift.Imm Ror 0))))))
    ≡ print (text
    "        uint32_t r = ((((c[16] >> 29) & 1u) << 31) | (c[2] >> 1u)) + ~c[1] + 1u;\n        c[3] = r;\n")
unfolding inline_body print decimal numeral
rsb = refl

-- tst r1, #0x80000000
tst : print
    (body_text (inline_body false (always false (Alu Tst true 0 1 (Operand2.Imm 0x8000_0000 2)))))
    ≡ print (text
    "        uint32_t r = (c[1] & 0x80000000u);\n        f_nz(c, r);\n        f_c(c, 1u);\n        (void)r;\n")
unfolding inline_body print decimal numeral hexadecimal8 last_digits
tst = refl

-- mlas r0, r1, r2, r3
mlas : print (body_text (inline_body false (always false (Mul true true 0 3 2 1))))
    ≡ print (text
    "        uint32_t r = c[1] * c[2];\n        r += c[3];\n        c[0] = r;\n        f_nz(c, r);\n")
unfolding inline_body print decimal numeral
mlas = refl

-- smlals r0, r1, r2, r3
smlals : print (body_text (inline_body false (always false (MulLong true true true 1 0 3 2))))
    ≡ print
    (text
    "        uint64_t r = (uint64_t)((int64_t)(int32_t)c[2] * (int64_t)(int32_t)c[3]);\n        r += ((uint64_t)c[1] << 32) | (uint64_t)c[0];\n        c[0] = (uint32_t)r;\n        c[1] = (uint32_t)(r >> 32);\n        f_nz64(c, r);\n")
unfolding inline_body print decimal numeral
smlals = refl

-- ldrsh r0, [r1], r2
ldrsh : print
    (body_text
    (inline_body false
    (always false (Mem true Half true 0 1 (MemOffset.Reg 2 (Shift.Imm Lsl 0)) false true false))))
    ≡ print
    (text
    "        uint32_t base = c[1];\n        uint32_t ob = base + c[2];\n        uint32_t addr = base;\n        c[1] = ob;\n        c[0] = ((addr & 1u) ? (uint32_t)(int32_t)(int8_t)a->read8(m, addr) : (uint32_t)(int32_t)(int16_t)a->read16(m, addr));\n")
unfolding inline_body print decimal numeral
ldrsh = refl

-- ldr r0, [pc, #16] in Thumb, at an address that is no multiple of 4
abbrev ldr_pc : Instr
ldr_pc =
    record {
      addr = 0x0800_0702;
      cond = Al;
      op = Mem true Word false 0 15 (MemOffset.Imm 16) true true false;
      thumb = true;
    }

ldr : print (body_text (inline_body true ldr_pc))
    ≡ print
    (text
    "        uint32_t base = (0x08000704u);\n        uint32_t ob = base + 0x10u;\n        uint32_t addr = ob;\n        c[0] = ror32(a->read32(m, addr & ~3u), (addr & 3u) * 8u);\n")
unfolding inline_body print decimal numeral hexadecimal hexadecimal8 last_digits
ldr = refl

-- strb r0, [r1, -r2, asr #4]!
strb : print
    (body_text
    (inline_body false
    (always false (Mem false Byte false 0 1 (MemOffset.Reg 2 (Shift.Imm Asr 4)) true false true))))
    ≡ print
    (text
    "        uint32_t base = c[1];\n        uint32_t ob = base - ((uint32_t)((int32_t)c[2] >> 4));\n        uint32_t addr = ob;\n        a->write8(m, addr, c[0]);\n        c[1] = ob;\n")
unfolding inline_body print decimal numeral
strb = refl

-- ldmia sp!, {r0, r4}
ldmia : print
    (body_text (inline_body false (always false (BlockMem true 13 0x11 false true false true))))
    ≡ print
    (text
    "        uint32_t base = c[13];\n        uint32_t addr = base;\n        c[13] = base + 8u;\n        c[0] = a->read32(m, addr & ~3u); addr += 4u;\n        c[4] = a->read32(m, addr & ~3u); addr += 4u;\n")
unfolding inline_body listed print decimal numeral
ldmia = refl

-- stmdb r4!, {r0, r4, pc}
stmdb : print
    (body_text (inline_body false (always false (BlockMem false 4 0x8011 true false false true))))
    ≡ print
    (text
    "        uint32_t base = c[4];\n        uint32_t addr = base - 12u;\n        a->write32(m, addr & ~3u, c[0]); addr += 4u;\n        a->write32(m, addr & ~3u, base - 12u); addr += 4u;\n        a->write32(m, addr & ~3u, 0x0800000cu); addr += 4u;\n        c[4] = base - 12u;\n")
unfolding inline_body listed print decimal numeral hexadecimal8 last_digits
stmdb = refl

-- stmia r1, {r0, r1}: the base that is not written back is stored as it was, though it is not the
-- lowest
stmia_kept : print
    (body_text (inline_body false (always false (BlockMem false 1 3 false true false false))))
    ≡ print
    (text
    "        uint32_t base = c[1];\n        uint32_t addr = base;\n        a->write32(m, addr & ~3u, c[0]); addr += 4u;\n        a->write32(m, addr & ~3u, base); addr += 4u;\n")
unfolding inline_body listed print decimal numeral
stmia_kept = refl

-- stmia r1!, {r1, r2}: a lowest base, in the same text
stmia_lowest : print
    (body_text (inline_body false (always false (BlockMem false 1 6 false true false true))))
    ≡ print
    (text
    "        uint32_t base = c[1];\n        uint32_t addr = base;\n        a->write32(m, addr & ~3u, base); addr += 4u;\n        a->write32(m, addr & ~3u, c[2]); addr += 4u;\n        c[1] = base + 8u;\n")
unfolding inline_body listed print decimal numeral
stmia_lowest = refl

-- left to the interpreter: PC as the result, a shift by a register, RRX of an offset, PC loaded,
-- user registers, no register
left_out : inline_body false (always false (Alu Mov false 15 0 (Operand2.Imm 1 0)))
    ∷ inline_body false (always false (Alu Mov false 0 0 (Operand2.Reg 1 (Shift.Reg Lsl 2))))
    ∷ inline_body false
    (always false (Mem true Word false 0 1 (MemOffset.Reg 2 (Shift.Imm Ror 0)) true true false))
    ∷ inline_body false (always false (BlockMem true 13 0x8001 false true false true))
    ∷ inline_body false (always false (BlockMem false 13 1 false true true true))
    ∷ inline_body false (always false (BlockMem false 13 0 false true false true))
    ∷ []
    ≡ none ∷ none ∷ none ∷ none ∷ none ∷ none ∷ []
unfolding inline_body
left_out = refl

-- an instruction with its cost
abbrev timed : ℕ → Instr → TimedInstr
timed cost i = record { instr = i; cost = cost }

-- bleq 0x08001000, with 5 cycles pending and 3 of its own
bleq : emit_instr false 8 5
    (timed 3
    (record { addr = 0x0800_0b00; cond = Eq; op = Branch true 0x0800_1000; thumb = false }))
    ≡ (
      native
          (branch_if ((tick 8 ∷ []) ∷ []) (v32 x-cz)
          (set_word 14 0x0800_0b04 ∷ set_word 15 0x0800_1000 ∷ []) 0x0800_1000),
      0,
    )
unfolding emit_instr
bleq = refl

-- bx lr: native, and left to the interpreter in region 0
bx_lr : emit_instr false 8 0 (timed 3 (always false (Bx 14)))
    ≡ (native (bx ((tick 3 ∷ []) ∷ []) (get (reg 14))), 0)
unfolding emit_instr
bx_lr = refl

bx_bios : emit_instr false 0 2 (timed 3 (always false (Bx 14)))
    ≡ (shell false ((tick 2 ∷ []) ∷ (set_word 15 0x0800_0000 ∷ []) ∷ []) 0x0800_0004, 0)
unfolding emit_instr inline_body
bx_bios = refl

-- pop {r0, pc} in Thumb
pop_pc : emit_instr true 8 0 (timed 4 (always true (BlockMem true 13 0x8001 false true false true)))
    ≡ (
      native
          (pop ((tick 4 ∷ []) ∷ []) (let32 x-addr (get (reg 13)))
          ((set_reg 0 (read w32 (aligned 3)) ∷ advance ∷ [])
          ∷ (set_reg 13 (bin add (get (reg 13)) (lit udec 8)) ∷ []) ∷ [])
          (set_reg 15 (bin band (read w32 (aligned 3)) (un compl (lit udec 1))))
          (bin bor (get (reg 15)) (lit udec 1))),
      0,
    )
unfolding emit_instr listed
pop_pc = refl

-- a block of a fused pair: the costs of both are flushed
fused_pair : emit_instrs true 8 1
    (timed 2 (always true (ThumbBlHigh 0x0800_0104)) ∷ timed 3 (always true (ThumbBlLow 3)) ∷ [])
    ≡ (
      native
          (pair ((tick 6 ∷ []) ∷ (set_word 14 0x0800_0003 ∷ []) ∷ (set_word 15 0x0800_010a ∷ []) ∷ [])
          0x0800_010b) ∷ [],
      0,
    )
unfolding emit_instrs fuse
fused_pair = refl

-- mul r0, r1, r2 with a cost, its text
abbrev mul : ℕ → TimedInstr
mul cost = timed cost (always false (Mul false false 0 0 2 1))

abbrev mul_lines : Lines
mul_lines = each_on_line (mul_body false false 0 0 2 1)

-- stmia sp, {r0}, its text
abbrev stmia : Op
stmia = BlockMem false 13 1 false true false false

abbrev stmia_lines : Lines
stmia_lines = block_mem_body (always false stmia) false 13 false false true false (0 ∷ [])

-- a cost of 1 is flushed before the store and that of the store, 2, before the interpreter, which
-- adds its own; the last, 4, is pending at the end
costs : emit_instrs false 8 0
    (mul 1 ∷ timed 2 (always false stmia) ∷ timed 3 (always false (Swi 0)) ∷ mul 4 ∷ [])
    ≡ (
      native (straight [] mul_lines)
          ∷ native (straight ((tick 1 ∷ []) ∷ []) stmia_lines)
          ∷ shell false ((tick 2 ∷ []) ∷ (set_word 15 0x0800_0000 ∷ []) ∷ []) 0x0800_0004
          ∷ native (straight [] mul_lines)
          ∷ [],
      4,
    )
unfolding emit_instrs emit_instr inline_body fuse listed
costs = refl
