-- The texts of lines as the code puts them together.
use mathlib.Core.Path.{◌≡◌, refl, sym, ap, ◌∙◌}
use Prim.Native.Nat.{ℕ}
use native.Mathlib.Omega.{arith}
use mathlib.Core.Bool.{Bool, true, false}
use mathlib.Core.List.{List, [], ◌∷◌, ◌++◌}
use mathlib.Core.Option.{Option, none, some}
use Rattle.armv4t.specs.declared.AluOp.{AluOp}
use Rattle.base_text.specs.Digits.{numeral}
use Rattle.base_text.specs.Doc.{Doc, nothing, text, dec, ◌▸◌, decimal, spaces}
use Rattle.base_text.specs.Flat.{flat}
use Rattle.c_tree.specs.Expr.{udec, x-r, Expr, lit}
use Rattle.c_tree.specs.Stmt.{f-nz, f-nz64, Plain, run}
use Rattle.c_tree.specs.Preamble.{v32}
use Rattle.c_tree.specs.Print.{expr_text, plain_text}
use Rattle.lower_forms.specs.InlineBody.{list_if, set_reg, result, logical_c, sum, mul_body}
use Rattle.lower_forms.specs.InlineBody.{r64, mul_long_body}
use Rattle.base_lists.specs.Lists.{is_some}
use Rattle.emit_operands.specs.Operands.{carry_text}
use Rattle.emit_alu.specs.Multiply.{product, accumulated, long_product, long_accumulated}
use Rattle.emit_alu.specs.Multiply.{halves}
use Rattle.emit_alu.specs.Texts.{statements_text, before, between, after}

-- lines after lines
pub statements_append : (ps qs : List Plain) (k : List ℕ)
    → flat (statements_text ps ▸ statements_text qs) k ≡ flat (statements_text (ps ++ qs)) k
statements_append [] qs k = refl
statements_append (p ∷ ps) qs k =
    ap (flat (spaces 8 ▸ plain_text p ▸ text ";\n")) (statements_append ps qs k)

-- constants
pub one_u : (k : List ℕ) → flat (text "1u") k ≡ flat (expr_text (lit udec 1)) k
unfolding decimal numeral
one_u k = refl

decimal_32 : decimal 32 ≡ 51 ∷ 50 ∷ []
unfolding decimal numeral
decimal_32 = refl

-- the carry of a logical operation, if there is one
pub with_carry : (e : Option Expr) → is_some e ≡ true → (k : List ℕ)
    → flat (text "        f_c(c, " ▸ carry_text e ▸ text ");\n") k
    ≡ flat (statements_text (logical_c e)) k
with_carry none p k = absurd (let q : ◌≡◌ {A = ℕ} 0 1 = cc in omega arith)
with_carry (some e) p k = refl

pub without_carry : (e : Option Expr) → is_some e ≡ false → (k : List ℕ)
    → flat nothing k ≡ flat (statements_text (logical_c e)) k
without_carry none p k = refl
without_carry (some e) p k = absurd (let q : ◌≡◌ {A = ℕ} 0 1 = cc in omega arith)

-- a sum, flags or not
sum_text_lem : (op : AluOp) (s : Bool) (rd : ℕ) (x y z : Expr) (k : List ℕ)
    → flat (before s ▸ expr_text x ▸ between s ▸ expr_text y ▸ between s ▸ expr_text z ▸ after s
    ▸ statements_text (result op rd ∷ [])) k
    ≡ flat (statements_text (sum op s rd x y z)) k
sum_text_lem op true rd x y z k = refl
sum_text_lem op false rd x y z k = refl

-- the same with terms that are put together otherwise
pub sum_of : (op : AluOp) (s : Bool) (rd : ℕ) (x y z : Expr) (d e : Doc)
    → ((k : List ℕ) → flat d k ≡ flat (expr_text y) k)
    → ((k : List ℕ) → flat e k ≡ flat (expr_text z) k) → (k : List ℕ)
    → flat (before s ▸ expr_text x ▸ between s ▸ d ▸ between s ▸ e ▸ after s
    ▸ statements_text (result op rd ∷ [])) k ≡ flat (statements_text (sum op s rd x y z)) k
sum_of op s rd x y z d e p q k =
    ap (flat (before s ▸ expr_text x ▸ between s))
    (p (flat (between s ▸ e ▸ after s ▸ statements_text (result op rd ∷ [])) k))
    ∙ ap (flat (before s ▸ expr_text x ▸ between s ▸ expr_text y ▸ between s))
    (q (flat (after s ▸ statements_text (result op rd ∷ [])) k))
    ∙ sum_text_lem op s rd x y z k

-- the halves of a long multiplication, and what it adds
pub halves_text : (hi lo : ℕ) (k : List ℕ)
    → flat (text "        c[" ▸ dec lo ▸ text "] = (uint32_t)r;\n        c[" ▸ dec hi
    ▸ text "] = (uint32_t)(r >> 32);\n") k
    ≡ flat (statements_text (halves hi lo)) k
halves_text hi lo k =
    ap (λ (n : List ℕ). flat
    (text "        c[" ▸ dec lo ▸ text "] = (uint32_t)r;\n        c[" ▸ dec hi
    ▸ text "] = (uint32_t)(r >> ") (n ++ flat (text ");\n") k))
    (sym decimal_32)

pub more_text : (hi lo : ℕ) (k : List ℕ)
    → flat (text "        r += ((uint64_t)c[" ▸ dec hi ▸ text "] << 32) | (uint64_t)c[" ▸ dec lo
    ▸ text "];\n") k
    ≡ flat (statements_text (long_accumulated hi lo ∷ [])) k
more_text hi lo k =
    ap (λ (n : List ℕ). flat (text "        r += ((uint64_t)c[" ▸ dec hi ▸ text "] << ")
    (n ++ flat (text ") | (uint64_t)c[" ▸ dec lo ▸ text "];\n") k))
    (sym decimal_32)

-- the lines of a multiplication, one after the other
pub mul_text : (acc s : Bool) (rd rn rs rm : ℕ) (k : List ℕ)
    → flat (statements_text (product rs rm ∷ []) ▸ statements_text (list_if acc (accumulated rn))
    ▸ statements_text (set_reg rd (v32 x-r) ∷ []) ▸ statements_text (list_if s (run f-nz (v32 x-r))))
    k
    ≡ flat (statements_text (mul_body acc s rd rn rs rm)) k
mul_text true s rd rn rs rm k = refl
mul_text false s rd rn rs rm k = refl

pub mul_long_text : (signed acc s : Bool) (hi lo rs rm : ℕ) (k : List ℕ)
    → flat (statements_text (long_product signed rs rm ∷ [])
    ▸ statements_text (list_if acc (long_accumulated hi lo)) ▸ statements_text (halves hi lo)
    ▸ statements_text (list_if s (run f-nz64 r64))) k
    ≡ flat (statements_text (mul_long_body signed acc s hi lo rs rm)) k
mul_long_text signed true s hi lo rs rm k = refl
mul_long_text signed false s hi lo rs rm k = refl
