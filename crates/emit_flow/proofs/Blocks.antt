-- The text of a block's forms, as the pieces that functions write one after another.
use mathlib.Core.Path.{◌≡◌, refl, sym, ap, ◌∙◌}
use Prim.Native.Nat.{ℕ, ◌+◌}
use mathlib.Core.Bool.{Bool, true, cond}
use mathlib.Core.List.{List, [], ◌∷◌, ◌++◌}
use mathlib.Core.Option.{some}
use Rattle.base_text.specs.Doc.{text, ◌▸◌}
use Rattle.base_text.specs.Flat.{flat}
use Rattle.c_tree.specs.Expr.{Expr}
use Rattle.c_tree.specs.Stmt.{Plain, guard, Owner, common, ret_interp, Code, end, ◌⨾◌, when, braces}
use Rattle.c_tree.specs.Print.{expr_text, code_text}
use Rattle.lower_forms.specs.Forms.{Lines, Native, straight, straight_if, branch_if, Form, shell}
use Rattle.lower_forms.specs.Forms.{records_in, Body}
use Rattle.lower_forms.specs.Block.{flush_ticks, pc_line}
use Rattle.file_records.specs.BlockRecord.{key_plus}
use Rattle.lower_units.specs.Block.{body_key, body_length, body_end, nl, sp, line, lines, transfer}
use Rattle.lower_units.specs.Block.{closing, conditional, native_text, shell_code, code_from}
use Rattle.lower_units.specs.Block.{defer, under_guard, exit_code, closing_lines}
use Rattle.lower_units.specs.Lines.{lines_text}
use Rattle.emit_flow.specs.Pieces.{straight_open, straight_end, before_condition, after_condition}
use Rattle.emit_flow.specs.Pieces.{after_conditional, straight_if_open, straight_if_end}
use Rattle.lower_units.proofs.LinesAfter.{lines_after}

-- lines in braces
pub straight_text : (ks : List ℕ) (a : ℕ) (o : Owner) (t l : Lines) (c : Code) (k : List ℕ)
    → flat (code_text (native_text ks a o (straight t l) c)) k
    ≡ flat (lines_text 4 t ▸ straight_open ▸ lines_text 8 l ▸ straight_end ▸ code_text c) k
unfolding native_text
straight_text ks a o t l c k =
    lines_after o common 4 t (sp 4 ⨾ braces (nl ⨾ lines o 8 l (sp 4 ⨾ end)) (nl ⨾ c)) k
    ∙ ap (flat (lines_text 4 t ▸ straight_open))
    (lines_after o common 8 l (sp 4 ⨾ end) (flat (text "}" ▸ code_text (nl ⨾ c)) k))

-- lines after a condition
pub straight_if_text : (ks : List ℕ) (a : ℕ) (o : Owner) (t : Lines) (e : Expr) (l : Lines)
    (c : Code) (k : List ℕ)
    → flat (code_text (native_text ks a o (straight_if t e l) c)) k
    ≡ flat (lines_text 4 t ▸ before_condition ▸ expr_text e ▸ straight_if_open ▸ lines_text 8 l
    ▸ straight_if_end ▸ code_text c) k
unfolding native_text
straight_if_text ks a o t e l c k =
    lines_after o common 4 t (conditional o e (nl ⨾ lines o 8 l (sp 6 ⨾ end)) c) k
    ∙ ap (flat (lines_text 4 t ▸ before_condition ▸ expr_text e ▸ straight_if_open))
    (lines_after o common 8 l (sp 6 ⨾ end) (flat (after_conditional ▸ code_text c) k))

-- a branch after a condition
pub branch_text : (ks : List ℕ) (a : ℕ) (o : Owner) (t : Lines) (e : Expr) (l : List Plain)
    (key : ℕ) (c : Code) (k : List ℕ)
    → flat (code_text (native_text ks a o (branch_if t e l key) c)) k
    ≡ flat (lines_text 4 t ▸ before_condition ▸ expr_text e
    ▸ (after_condition ▸ code_text (sp 1 ⨾ line o l (nl ⨾ transfer ks a o 8 key (sp 6 ⨾ end)))
    ▸ after_conditional) ▸ code_text c) k
unfolding native_text
branch_text ks a o t e l key c k =
    lines_after o common 4 t
    (conditional o e (sp 1 ⨾ line o l (nl ⨾ transfer ks a o 8 key (sp 6 ⨾ end))) c) k

-- a shell, and the code after it
pub shell_after : (b : Body) (i key : ℕ) (t : Lines) (c : Code) (k : List ℕ)
    → flat (code_text (lines common 4 t (shell_code b i key c))) k
    ≡ flat (code_text (lines common 4 t (shell_code b i key end)) ▸ code_text c) k
shell_after b i key t c k =
    lines_after common common 4 t (shell_code b i key c) k
    ∙ sym (lines_after common common 4 t (shell_code b i key end) (flat (code_text c) k))

-- the guard, and the code after it
pub guard_after : (ks : List ℕ) (b : Body) (h : ℕ) (k : List ℕ)
    → flat (code_text (under_guard ks b (some h))) k
    ≡ flat (code_text
    (sp 4 ⨾ when common true (guard b.addr (body_length b) h) (sp 1 ⨾ defer b (sp 1 ⨾ end))
    (nl ⨾ end)) ▸ code_text (code_from ks b 0 b.forms)) k
unfolding under_guard
guard_after ks b h k = refl

-- the text from a native record on: its mark prints nothing
pub code_native : (ks : List ℕ) (b : Body) (i : ℕ) (r : Native) (rs : List Form) (k : List ℕ)
    → flat (code_text (code_from ks b i (Form.native r ∷ rs))) k
    ≡ flat (code_text
    (native_text ks b.addr (Owner.native_of (body_key b)) r (code_from ks b (i + records_in r) rs))) k
unfolding code_from
code_native ks b i r rs k = refl

-- from a shell on that has others after it
pub code_shell : (ks : List ℕ) (b : Body) (i : ℕ) (h : Bool) (t : Lines) (key : ℕ) (r : Form)
    (rs : List Form) (k : List ℕ)
    → flat (code_text (code_from ks b i (shell h t key ∷ r ∷ rs))) k
    ≡ flat (code_text (lines common 4 t (shell_code b i key end))
    ▸ code_text (code_from ks b (i + 1) (r ∷ rs))) k
unfolding code_from
code_shell ks b i h t key r rs k = shell_after b i key t (code_from ks b (i + 1) (r ∷ rs)) k

-- the last shell, and the closing transfer where it is an unfused half
pub code_last : (ks : List ℕ) (b : Body) (i : ℕ) (h : Bool) (t : Lines) (key : ℕ) (k : List ℕ)
    → flat (code_text (code_from ks b i (shell h t key ∷ []))) k
    ≡ flat (code_text (lines common 4 t (sp 4 ⨾ ret_interp (body_key b) i ⨾ nl ⨾ end))
    ▸ code_text (cond h (closing ks b) end)) k
unfolding code_from
code_last ks b i h t key k =
    lines_after common common 4 t (sp 4 ⨾ ret_interp (body_key b) i ⨾ nl ⨾ cond h (closing ks b) end)
    k
    ∙ sym (lines_after common common 4 t (sp 4 ⨾ ret_interp (body_key b) i ⨾ nl ⨾ end)
    (flat (code_text (cond h (closing ks b) end)) k))

-- the end of a block, by the cycles pending there and where it goes on
pub closing_text : (ks : List ℕ) (b : Body) (cycles next key : ℕ) (k : List ℕ)
    → closing_lines b ≡ flush_ticks cycles ++ pc_line next
    → key_plus (body_end b) b.thumb ≡ key
    → flat (code_text (closing ks b)) k
    ≡ flat (code_text (exit_code ks b.addr common (flush_ticks cycles ++ pc_line next) key)) k
unfolding closing
closing_text ks b cycles next key k e f =
    ap (λ (l : Lines). flat
    (code_text (exit_code ks b.addr common l (key_plus (body_end b) b.thumb))) k) e
    ∙ ap (λ (n : ℕ). flat
    (code_text (exit_code ks b.addr common (flush_ticks cycles ++ pc_line next) n)) k) f
