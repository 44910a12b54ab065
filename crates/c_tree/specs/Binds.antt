-- Steps: what C's grammar asks of a tree, so that a compiler reads the tree from its text: each
-- operand binds as tightly as its place asks (C99, 6.5), and no expression has a line end in it.
-- The argument that a compiler reads the tree rests on it, and no promise. What follows is proved:
-- no expression or plain statement prints `;`, `{`, `}` or a line end (proofs/Clean.antt), and the
-- `;` and braces of code are those of the tree (proofs/Skeleton.antt).
use Rattle.std.specs.Prelude.{ℕ, suc, Bool, true, false, ◌&&◌, List, [], ◌∷◌, leb}
use Rattle.c_tree.specs.Expr.{Name, operator, Expr, lit, get, par, un, bin, or_line, cast}
use Rattle.c_tree.specs.Expr.{pick, ror, read}
use Rattle.c_tree.specs.Stmt.{Plain, registers, local, declare, adds, set, discard, run}
use Rattle.c_tree.specs.Stmt.{write, tick, Test, guard, gate, other, Simple, gap, record_mark}
use Rattle.c_tree.specs.Stmt.{plain, label, goto, ret, ret_if, interp, ret_interp, call, switch}
use Rattle.c_tree.specs.Stmt.{Code, end, ◌⨾◌, when, braces, helper, block, group, Top}
use Rattle.c_tree.specs.Stmt.{opening, function, blank, extern, table, count}

-- the level of an expression in the grammar: 14 primary and postfix, 13 unary and cast, 12 to 3
-- binary, 2 conditional
unfoldable pub level : Expr → ℕ
level (lit s n) = 14
level (get p) = 14
level (par e) = 14
level (un o e) = 13
level (bin o d e) = (operator o).1
level (or_line d e) = 5
level (cast y e) = 13
level (pick c d e) = 2
level (ror d e) = 14
level (read w e) = 14

-- operands bind as tightly as they must: a binary operator takes its own level on the left and a
-- higher one on the right. l: line ends are allowed
unfoldable pub binds : Bool → Expr → Bool
unfolding level
binds l (lit s n) = true
binds l (get p) = true
binds l (par e) = binds l e
binds l (un o e) = leb 13 (level e) && binds l e
binds l (bin o d e) = (leb (operator o).1 (level d) && binds l d)
    && (leb (suc (operator o).1) (level e) && binds l e)
binds l (or_line d e) = l && (leb 5 (level d) && binds l d) && (leb 6 (level e) && binds l e)
binds l (cast y e) = leb 13 (level e) && binds l e
binds l (pick c d e) = (leb 3 (level c) && binds l c) && binds l d && (leb 2 (level e) && binds l e)
binds l (ror d e) = binds l d && binds l e
binds l (read w e) = binds l e

-- the same of the declarators after the first
unfoldable pub declarators_bind : Bool → List (Name × Expr) → Bool
unfolding binds
declarators_bind l [] = true
declarators_bind l (p ∷ ps) = binds l p.1 && declarators_bind l ps

-- of a plain statement
unfoldable pub plain_binds : Bool → Plain → Bool
unfolding binds declarators_bind
plain_binds l registers = true
plain_binds l (local x) = true
plain_binds l (declare x e ds) = binds l e && declarators_bind l ds
plain_binds l (adds x d e f) = binds l d && binds l e && binds l f
plain_binds l (set p o e) = binds l e
plain_binds l (discard x) = true
plain_binds l (run p e) = binds l e
plain_binds l (write w d e) = binds l d && binds l e
plain_binds l (tick n) = true

-- of what a condition tests, if n after a `!`
unfoldable pub test_binds : Bool → Bool → Test → Bool
unfolding level binds
test_binds l n (guard a k h) = true
test_binds l n gate = true
test_binds l true (other e) = leb 13 (level e) && binds l e
test_binds l false (other e) = binds l e

-- of a statement without braces
unfoldable pub simple_binds : Bool → Simple → Bool
unfolding binds plain_binds test_binds
simple_binds l (gap b n) = true
simple_binds l (record_mark k i n) = true
simple_binds l (plain o p) = plain_binds l p
simple_binds l (label k) = true
simple_binds l (goto o k) = true
simple_binds l (ret o e) = binds l e
simple_binds l (ret_if o t e) = test_binds l false t && binds l e
simple_binds l (interp k i) = true
simple_binds l (ret_interp k i) = true
simple_binds l (call k n) = true
simple_binds l (switch ks) = true

-- of code: what the lowering is to keep, with l false
unfoldable pub code_binds : Bool → Code → Bool
unfolding simple_binds test_binds
code_binds l end = true
code_binds l (s ⨾ c) = simple_binds l s && code_binds l c
code_binds l (when o n t b c) = test_binds l n t && code_binds l b && code_binds l c
code_binds l (braces b c) = code_binds l b && code_binds l c

-- of a part of a unit: line ends in expressions are PREAMBLE's only
abbrev pub top_binds : Top → Bool
top_binds opening = true
top_binds (function (helper h) c) = code_binds true c
top_binds (function (block k) c) = code_binds false c
top_binds (function (group k) c) = code_binds false c
top_binds blank = true
top_binds (extern k) = true
top_binds (table ks) = true
top_binds (count n) = true

-- of a unit
abbrev pub tree_binds : List Top → Bool
tree_binds [] = true
tree_binds (t ∷ ts) = top_binds t && tree_binds ts
