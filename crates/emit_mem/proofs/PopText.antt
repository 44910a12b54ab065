-- The text of a pop: its loads, its base, and PC; and the ticks before it.
use Rattle.std.proofs.Common.{◌≡◌, ℕ, ◌+◌, ◌*◌, Bool, true, false, cond, List, [], ◌∷◌, ◌++◌, length, sym, refl, ap, ◌∙◌}
use Rattle.base_text.specs.Digits.{numeral}
use Rattle.base_text.specs.Doc.{Doc, text, ◌▸◌, decimal}
use Rattle.base_text.specs.Flat.{flat}
use Rattle.c_tree.specs.Expr.{udec, x-addr, reg, compl, add, band, bor, w32, lit, get, un, bin}
use Rattle.c_tree.specs.Expr.{read}
use Rattle.c_tree.specs.Stmt.{Plain, Owner, common, plain, Code, end, ◌⨾◌, braces}
use Rattle.c_tree.specs.Print.{code_text}
use Rattle.lower_forms.specs.Forms.{Lines}
use Rattle.lower_forms.specs.InlineBody.{each_on_line, let32, set_reg, aligned, loads}
use Rattle.lower_forms.specs.Block.{flush_ticks, emit_pop}
use Rattle.lower_units.specs.Block.{nl, sp, lines, leave, native_text}
use Rattle.lower_units.specs.Lines.{lines_text}
use Rattle.lower_units.proofs.LinesAfter.{lines_after}
use Rattle.emit_mem.proofs.Lines.{lines_both}

-- the statement that writes the base back
abbrev pop_base : ℕ → List ℕ → Plain
pop_base rn regs = set_reg rn (bin add (get (reg rn)) (lit udec ((length regs + 1) * 4)))

-- PC, and the return, with an owner
abbrev pop_tail : Owner → Bool → Code
pop_tail o thumb =
    sp 6 ⨾ plain o
    (set_reg 15 (bin band (read w32 (aligned 3)) (un compl (lit udec (cond thumb 1 3)))))
    ⨾ leave o (bin bor (get (reg 15)) (lit udec (cond thumb 1 0)))

-- its text
abbrev last_text : Bool → Doc
last_text true = text "      c[15] = a->read32(m, addr & ~3u) & ~1u; return c[15] | 1u; }\n"
last_text false = text "      c[15] = a->read32(m, addr & ~3u) & ~3u; return c[15] | 0u; }\n"

last_text_lem : (thumb : Bool)
    → flat (last_text thumb) [] ≡ flat (code_text (pop_tail common thumb)) (flat (text "}\n") [])
unfolding decimal numeral
last_text_lem true = refl
last_text_lem false = refl

pub pop_text : (thumb : Bool) (rn : ℕ) (regs : List ℕ)
    → flat
    ((text "    { "
    ▸ code_text
    (plain common (let32 x-addr (get (reg rn))) ⨾ nl ⨾ lines common 6 (loads regs) end))
    ▸ code_text (lines common 6 (each_on_line (pop_base rn regs ∷ [])) end) ▸ last_text thumb) []
    ≡ flat (code_text (native_text [] 0 common (emit_pop thumb 0 rn regs) end)) []
unfolding native_text
pop_text thumb rn regs =
    ap (λ (s : List ℕ). flat
    (text "    { " ▸ code_text (plain common (let32 x-addr (get (reg rn))) ⨾ nl ⨾ end)) s)
    (ap (λ (s : List ℕ). flat (code_text (lines common 6 (loads regs) end))
    (flat (code_text (lines common 6 (each_on_line (pop_base rn regs ∷ [])) end)) s)) (last_text_lem thumb)
    ∙ lines_both 6 (loads regs) (each_on_line (pop_base rn regs ∷ [])) (pop_tail common thumb)
    (flat (text "}\n") []))

-- a pop without its ticks, with an owner
abbrev pop_code : Owner → Bool → ℕ → List ℕ → Code
pop_code o thumb rn regs =
    sp 4
    ⨾ braces
    (sp 1 ⨾ plain o (let32 x-addr (get (reg rn))) ⨾ nl
    ⨾ lines o 6 (loads regs ++ each_on_line (pop_base rn regs ∷ [])) (pop_tail o thumb))
    (nl ⨾ end)

-- the owner prints nothing
code_owner : (o : Owner) (thumb : Bool) (rn : ℕ) (regs : List ℕ) (k : List ℕ)
    → flat (code_text (pop_code o thumb rn regs)) k ≡ flat (code_text (pop_code common thumb rn regs)) k
code_owner o thumb rn regs k =
    let ls : Lines = loads regs ++ each_on_line (pop_base rn regs ∷ []) in
    let k' : List ℕ = flat (text "}" ▸ code_text (nl ⨾ end)) k in
    ap (λ (s : List ℕ). flat
    (text "    { " ▸ code_text (plain common (let32 x-addr (get (reg rn))) ⨾ nl ⨾ end)) s)
    (lines_after o common 6 ls (pop_tail o thumb) k'
    ∙ sym (lines_after common common 6 ls (pop_tail common thumb) k'))

-- the ticks stand before a pop, and neither its owner nor what would stand after it shows
pub ticks_then_pop : (ks : List ℕ) (a : ℕ) (o : Owner) (thumb : Bool) (cycles rn : ℕ)
    (regs : List ℕ) (c : Code) (k : List ℕ)
    → flat (code_text (native_text ks a o (emit_pop thumb cycles rn regs) c)) k
    ≡ flat (lines_text 4 (flush_ticks cycles)
    ▸ code_text (native_text [] 0 common (emit_pop thumb 0 rn regs) end)) k
unfolding native_text
ticks_then_pop ks a o thumb cycles rn regs c k =
    lines_after o common 4 (flush_ticks cycles) (pop_code o thumb rn regs) k
    ∙ ap (flat (lines_text 4 (flush_ticks cycles))) (code_owner o thumb rn regs k)
