-- The text of lines put together: lines after lines, and what stands after them.
use Rattle.std.proofs.Common.{◌≡◌, ℕ, ◌+◌, List, [], ◌∷◌, ◌++◌, sym, refl, ap, ◌∙◌}
use Rattle.base_text.specs.Doc.{◌▸◌}
use Rattle.base_text.specs.Flat.{flat}
use Rattle.c_tree.specs.Expr.{w32, Expr, read}
use Rattle.c_tree.specs.Stmt.{Plain, write, common, Code, end}
use Rattle.c_tree.specs.Print.{code_text}
use Rattle.lower_forms.specs.Forms.{Lines}
use Rattle.emit_mem.proofs.Listed.{listed_suc}
use Rattle.lower_forms.specs.InlineBody.{list_if, each_on_line, set_reg, aligned, listed, advance}
use Rattle.lower_forms.specs.InlineBody.{loads, stores}
use Rattle.armv4t.specs.RegisterList.{is_listed}
use Rattle.lower_units.specs.Block.{lines}
use Rattle.lower_units.proofs.LinesAfter.{lines_append, lines_after}

pub lines_both : (n : ℕ) (ls ms : Lines) (c : Code) (k : List ℕ)
    → flat (code_text (lines common n ls end) ▸ code_text (lines common n ms c)) k
    ≡ flat (code_text (lines common n (ls ++ ms) c)) k
lines_both n ls ms c k =
    sym (ap (λ (d : Code). flat (code_text d) k) (lines_append common n ls ms c)
    ∙ lines_after common common n ls (lines common n ms c) k)

-- statements after statements, each in a line of its own
each_on_line_append : (ps qs : List Plain) → each_on_line (ps ++ qs) ≡ each_on_line ps ++ each_on_line qs
each_on_line_append [] qs = refl
each_on_line_append (p ∷ ps) qs = ap (◌∷◌ (p ∷ [])) (each_on_line_append ps qs)

pub each_on_line_both : (n : ℕ) (ps qs : List Plain)
    → flat (code_text (lines common n (each_on_line ps) end)
    ▸ code_text (lines common n (each_on_line qs) end)) []
    ≡ flat (code_text (lines common n (each_on_line (ps ++ qs)) end)) []
each_on_line_both n ps qs =
    lines_both n (each_on_line ps) (each_on_line qs) end []
    ∙ ap (λ (ls : Lines). flat (code_text (lines common n ls end)) [])
    (sym (each_on_line_append ps qs))

-- the loads and the stores of two names of registers, one after the other
pub loads_append : (xs ys : List ℕ) → loads (xs ++ ys) ≡ loads xs ++ loads ys
loads_append [] ys = refl
loads_append (x ∷ xs) ys =
    ap (◌∷◌ (set_reg x (read w32 (aligned 3)) ∷ advance ∷ [])) (loads_append xs ys)

pub stores_append : (value : ℕ → Expr) (xs ys : List ℕ)
    → stores value (xs ++ ys) ≡ stores value xs ++ stores value ys
stores_append value [] ys = refl
stores_append value (x ∷ xs) ys =
    ap (◌∷◌ (write w32 (aligned 3) (value x) ∷ advance ∷ [])) (stores_append value xs ys)

-- the lines of one register more
pub loads_more : (n rlist r : ℕ)
    → flat (code_text (lines common n (loads (listed rlist r)) end)
    ▸ code_text (lines common n (loads (list_if (is_listed rlist r) r)) end)) []
    ≡ flat (code_text (lines common n (loads (listed rlist (r + 1))) end)) []
loads_more n rlist r =
    lines_both n (loads (listed rlist r)) (loads (list_if (is_listed rlist r) r)) end []
    ∙ ap (λ (ls : Lines). flat (code_text (lines common n ls end)) [])
    (sym (loads_append (listed rlist r) (list_if (is_listed rlist r) r))
    ∙ ap loads (sym (listed_suc rlist r)))

pub stores_more : (n : ℕ) (value : ℕ → Expr) (rlist r : ℕ)
    → flat (code_text (lines common n (stores value (listed rlist r)) end)
    ▸ code_text (lines common n (stores value (list_if (is_listed rlist r) r)) end)) []
    ≡ flat (code_text (lines common n (stores value (listed rlist (r + 1))) end)) []
stores_more n value rlist r =
    lines_both n (stores value (listed rlist r)) (stores value (list_if (is_listed rlist r) r)) end []
    ∙ ap (λ (ls : Lines). flat (code_text (lines common n ls end)) [])
    (sym (stores_append value (listed rlist r) (list_if (is_listed rlist r) r))
    ∙ ap (stores value) (sym (listed_suc rlist r)))
