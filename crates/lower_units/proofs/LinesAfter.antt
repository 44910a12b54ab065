-- How lines are laid out one after the other. Whose they are does not show in their text, and the
-- text of the code after them stands after theirs.
use Prim.Native.Nat.{ℕ}
use mathlib.Core.Path.{◌≡◌, refl, sym, ap, ◌∙◌}
use mathlib.Core.List.{List, [], ◌∷◌, ◌++◌}
use Rattle.base_text.specs.Flat.{flat}
use Rattle.c_tree.specs.Stmt.{Plain, Owner, plain, Code, end, ◌⨾◌}
use Rattle.c_tree.specs.Print.{code_text}
use Rattle.lower_forms.specs.Forms.{Lines}
use Rattle.lower_units.specs.Block.{nl, sp, line, lines}

-- lines after lines
pub lines_append : (o : Owner) (n : ℕ) (ls ms : Lines) (c : Code)
    → lines o n (ls ++ ms) c ≡ lines o n ls (lines o n ms c)
lines_append o n [] ms c = refl
lines_append o n (l ∷ ls) ms c =
    ap (λ (d : Code). sp n ⨾ line o l (nl ⨾ d)) (lines_append o n ls ms c)

-- a line, and the code after it
pub line_after : (o p : Owner) (l : List Plain) (c : Code) (k : List ℕ)
    → flat (code_text (line o l c)) k ≡ flat (code_text (line p l end)) (flat (code_text c) k)
line_after o p [] c k = refl
line_after o p (x ∷ []) c k = refl
line_after o p (x ∷ y ∷ l) c k =
    ap (flat (code_text (plain p x ⨾ sp 1 ⨾ end))) (line_after o p (y ∷ l) c k)

-- lines, and the code after them
pub lines_after : (o p : Owner) (n : ℕ) (ls : Lines) (c : Code) (k : List ℕ)
    → flat (code_text (lines o n ls c)) k ≡ flat (code_text (lines p n ls end)) (flat (code_text c) k)
lines_after o p n [] c k = refl
lines_after o p n (l ∷ ls) c k =
    ap (flat (code_text (sp n ⨾ end)))
    (line_after o p l (nl ⨾ lines o n ls c) k
    ∙ ap (λ (t : List ℕ). flat (code_text (line p l end)) (flat (code_text (nl ⨾ end)) t))
    (lines_after o p n ls c k)
    ∙ sym (line_after p p l (nl ⨾ lines p n ls end) (flat (code_text c) k)))
