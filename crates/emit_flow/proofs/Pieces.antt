-- The text of the trees of `lower_units`, piece by piece: what a function writes, and what is
-- written after it.
use mathlib.Core.Path.{◌≡◌, refl, sym, ap, ◌∙◌}
use Prim.Native.Nat.{ℕ}
use mathlib.Core.Bool.{Bool, true, false, cond}
use mathlib.Core.List.{List, [], ◌∷◌, ◌++◌}
use mathlib.Core.Option.{none}
use lib.Dec.{leb}
use Rattle.armv4t.specs.Bit0.{clear_bit0, set_bit0}
use Rattle.base_text.specs.Digits.{numeral}
use Rattle.base_text.specs.Doc.{text, dec, hex8, hex16, ◌▸◌, decimal, hexadecimal}
use Rattle.base_text.specs.Flat.{flat}
use Rattle.c_tree.specs.Expr.{word, Expr, lit}
use Rattle.c_tree.specs.Stmt.{Plain, gate, guard, Owner, common, ret, ret_if, Code, end, ◌⨾◌}
use Rattle.c_tree.specs.Stmt.{when}
use Rattle.c_tree.specs.Print.{expr_text, code_text}
use Rattle.lower_forms.specs.Forms.{Lines, jump, bx, Body}
use Rattle.lower_forms.specs.InlineBody.{list_if, each_on_line}
use Rattle.lower_forms.specs.Block.{flush_ticks, set_word, emit_pair, branch_regs, pc_line}
use Rattle.lower_units.specs.Block.{nl, sp, line, lines, goto_code, transfer}
use Rattle.lower_units.specs.Block.{native_text, defer, under_guard}
use Rattle.lower_units.specs.Lines.{lines_text}
use Rattle.base_lists.specs.Lists.{among}
use Rattle.emit_flow.specs.Pieces.{after_condition, after_conditional}
use Rattle.lower_units.proofs.LinesAfter.{lines_append, line_after, lines_after}

-- cycles, and the lines after them
pub ticked : (o : Owner) (cycles : ℕ) (ms : Lines) (c : Code)
    → flat (lines_text 4 (flush_ticks cycles) ▸ code_text (lines o 4 ms c)) []
    ≡ flat (code_text (lines o 4 (flush_ticks cycles ++ ms) c)) []
ticked o cycles ms c =
    sym (ap (λ (d : Code). flat (code_text d) []) (lines_append o 4 (flush_ticks cycles) ms c)
    ∙ lines_after o common 4 (flush_ticks cycles) (lines o 4 ms c) [])

-- a transfer by what decides it, and the code after it
transfer_by : (inside up : Bool) (o p : Owner) (n key : ℕ) (c : Code) (k : List ℕ)
    → flat (code_text (cond inside (goto_code up o n key c) (sp n ⨾ ret o (lit word key) ⨾ nl ⨾ c))) k
    ≡ flat (code_text
    (cond inside (goto_code up p n key end) (sp n ⨾ ret p (lit word key) ⨾ nl ⨾ end)))
    (flat (code_text c) k)
unfolding goto_code
transfer_by false up o p n key c k = refl
transfer_by true false o p n key c k = refl
transfer_by true true o p n key c k = refl

-- a transfer, and the code after it
pub transfer_after : (ks : List ℕ) (a : ℕ) (o p : Owner) (n key : ℕ) (c : Code) (k : List ℕ)
    → flat (code_text (transfer ks a o n key c)) k
    ≡ flat (code_text (transfer ks a p n key end)) (flat (code_text c) k)
unfolding transfer
transfer_after ks a o p n key c k = transfer_by (among key ks) (leb (clear_bit0 key) a) o p n key c k

-- the three transfers: out of the group, gated, and not gated
pub returned : (ks : List ℕ) (a : ℕ) (o : Owner) (n key : ℕ) → among key ks ≡ false
    → flat (code_text (sp n ⨾ ret common (lit word key) ⨾ nl ⨾ end)) []
    ≡ flat (code_text (transfer ks a o n key end)) []
unfolding transfer
returned ks a o n key e = rw e refl

pub gated : (ks : List ℕ) (a : ℕ) (o : Owner) (n key : ℕ) → among key ks ≡ true
    → leb (clear_bit0 key) a ≡ true
    → flat (code_text (sp n ⨾ ret_if common gate (lit word key) ⨾ nl ⨾ end)
    ▸ code_text (goto_code false common n key end)) []
    ≡ flat (code_text (transfer ks a o n key end)) []
unfolding transfer goto_code
gated ks a o n key e f = rw (e, f) refl

pub ungated : (ks : List ℕ) (a : ℕ) (o : Owner) (n key : ℕ) → among key ks ≡ true
    → leb (clear_bit0 key) a ≡ false
    → flat (code_text (goto_code false common n key end)) []
    ≡ flat (code_text (transfer ks a o n key end)) []
unfolding transfer goto_code
ungated ks a o n key e f = rw (e, f) refl

-- the lines that set r14 and r15
pub lr_set : (n : ℕ)
    → flat (text "    c[14] = 0x" ▸ hex8 n ▸ text "u;\n") []
    ≡ flat (lines_text 4 (each_on_line (set_word 14 n ∷ []))) []
unfolding decimal numeral
lr_set n = refl

pub pc_set : (n : ℕ)
    → flat (text "    c[15] = 0x" ▸ hex8 n ▸ text "u;\n") [] ≡ flat (lines_text 4 (pc_line n)) []
unfolding decimal numeral
pc_set n = refl

-- the lines of a branch that is always taken, and the code after them
pub linked : (link : Bool) (back target : ℕ) (o : Owner) (c : Code) (k : List ℕ)
    → flat (lines_text 4 (each_on_line (list_if link (set_word 14 back))) ▸ lines_text 4 (pc_line target)
    ▸ code_text c) k
    ≡ flat (code_text (lines o 4 (each_on_line (branch_regs link back target)) c)) k
linked true back target o c k = refl
linked false back target o c k = refl

-- a branch that is always taken
pub jumped : (ks : List ℕ) (a : ℕ) (o : Owner) (cycles : ℕ) (link : Bool) (back target key : ℕ)
    (c : Code)
    → flat (lines_text 4 (flush_ticks cycles)
    ▸ lines_text 4 (each_on_line (list_if link (set_word 14 back)))
    ▸ lines_text 4 (pc_line target) ▸ code_text (transfer ks a o 4 key end)) []
    ≡ flat (code_text
    (native_text ks a o (jump (flush_ticks cycles ++ each_on_line (branch_regs link back target)) key)
    c))
    []
unfolding native_text
jumped ks a o cycles link back target key c =
    ap (flat (lines_text 4 (flush_ticks cycles)))
    (linked link back target o (transfer ks a o 4 key end) [])
    ∙ ticked o cycles (each_on_line (branch_regs link back target)) (transfer ks a o 4 key end)

-- a branch after its condition
pub taken : (ks : List ℕ) (a : ℕ) (o : Owner) (l : List Plain) (key : ℕ)
    → flat ((after_condition ▸ code_text (sp 1 ⨾ line common l (nl ⨾ end)))
    ▸ code_text (transfer ks a o 8 key end) ▸ text "      } }\n") []
    ≡ flat (after_condition ▸ code_text (sp 1 ⨾ line o l (nl ⨾ transfer ks a o 8 key (sp 6 ⨾ end)))
    ▸ after_conditional) []
taken ks a o l key =
    ap (flat (after_condition ▸ code_text (sp 1 ⨾ end)))
    (line_after common common l (nl ⨾ end)
    (flat (code_text (transfer ks a o 8 key end) ▸ text "      } }\n") [])
    ∙ ap (λ (t : List ℕ). flat (code_text (line common l end)) (flat (code_text (nl ⨾ end)) t))
    (sym (transfer_after ks a o o 8 key (sp 6 ⨾ end) (flat after_conditional [])))
    ∙ sym (line_after o common l (nl ⨾ transfer ks a o 8 key (sp 6 ⨾ end))
    (flat after_conditional [])))

-- a fused pair
pub paired : (ks : List ℕ) (a : ℕ) (o : Owner) (cycles target back : ℕ) (c : Code) (to key : ℕ)
    → to ≡ clear_bit0 target → key ≡ set_bit0 target
    → flat (lines_text 4 (flush_ticks cycles) ▸ lines_text 4 (each_on_line (set_word 14 back ∷ []))
    ▸ lines_text 4 (pc_line to) ▸ code_text (transfer ks a o 4 key end)) []
    ≡ flat (code_text (native_text ks a o (emit_pair cycles target back) c)) []
unfolding native_text
paired ks a o cycles target back c to key e f =
    rw (e, f)
    (ticked o cycles (each_on_line (set_word 14 back ∷ set_word 15 (clear_bit0 target) ∷ []))
    (transfer ks a o 4 (set_bit0 target) end))

-- a Bx
pub bx_text : (ks : List ℕ) (a : ℕ) (o : Owner) (cycles : ℕ) (e : Expr) (c : Code)
    → flat (lines_text 4 (flush_ticks cycles) ▸ text "    { uint32_t t = " ▸ expr_text e
    ▸ text
    ";\n      if (t & 1u) { c[16] |= 0x20u; c[15] = t & ~1u; return (t & ~1u) | 1u; }\n      c[16] &= ~0x20u; c[15] = t & ~3u; return t & ~3u; }\n")
    []
    ≡ flat (code_text (native_text ks a o (bx (flush_ticks cycles) e) c)) []
unfolding native_text decimal hexadecimal numeral
bx_text ks a o cycles e c = sym (lines_after o common 4 (flush_ticks cycles) _ [])

-- the interpreter in the block's place, in front of any other text
pub deferred : (b : Body) (a : ℕ) (k : List ℕ) → b.addr ≡ a
    → flat (text "c[15] = 0x" ▸ hex8 a ▸ text "u; return a->interp_one(m);") k
    ≡ flat (code_text (defer b end)) k
unfolding decimal numeral
deferred b a k e = rw e refl

-- the guard
pub guarding : (b : Body) (a l h : ℕ) → b.addr ≡ a
    → flat (text "    if (!a->guard(m, 0x" ▸ hex8 a ▸ text "u, " ▸ dec l ▸ text "u, 0x" ▸ hex16 h
    ▸ text "ull)) { c[15] = 0x" ▸ hex8 a ▸ text "u; return a->interp_one(m); }\n") []
    ≡ flat (code_text
    (sp 4 ⨾ when common true (guard b.addr l h) (sp 1 ⨾ defer b (sp 1 ⨾ end)) (nl ⨾ end))) []
guarding b a l h e =
    ap (flat
    (text "    if (!a->guard(m, 0x" ▸ hex8 a ▸ text "u, " ▸ dec l ▸ text "u, 0x" ▸ hex16 h
    ▸ text "ull)) { ")) (deferred b a (flat (text " }\n") []) e)
    ∙ ap (λ (n : ℕ). flat
    (text "    if (!a->guard(m, 0x" ▸ hex8 n ▸ text "u, " ▸ dec l ▸ text "u, 0x" ▸ hex16 h
    ▸ text "ull)) { " ▸ code_text (defer b end) ▸ text " }\n") []) (sym e)

-- the interpreter alone, for a block without code bytes
pub alone : (ks : List ℕ) (b : Body) (a : ℕ) → b.addr ≡ a
    → flat (text "    c[15] = 0x" ▸ hex8 a ▸ text "u; return a->interp_one(m);\n") []
    ≡ flat (code_text (under_guard ks b none)) []
unfolding under_guard
alone ks b a e = ap (flat (text "    ")) (deferred b a (flat (text "\n") []) e)
