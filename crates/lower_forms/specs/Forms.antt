-- To be believed: the forms of text that emit_block prints for the instructions of a block. A form
-- holds the expressions and plain statements that vary; the statements that a way goes by, and the
-- layout, come with the form (the crate `lower_units`).
use Rattle.std.specs.Prelude.{ℕ, Bool, true, false, List}
use Rattle.std.proofs.Math.Option.{Option}
use Rattle.c_tree.specs.Expr.{Expr}
use Rattle.c_tree.specs.Stmt.{Plain}

-- lines of plain statements, those of one line with a space between
abbrev pub Lines : Type 0
Lines = List (List Plain)

-- the text of a native record (document 01), or of a fused pair; the first lines, at indent 4, are
-- a tick or none and what else stands before
pub data Native : Type 0 where
  -- { lines at 8 }
  straight : Lines → Lines → Native
  -- { flags; if (e) { lines at 8 } }
  straight_if : Lines → Expr → Lines → Native
  -- { flags; if (e) { one line; transfer to a key at 8 } }
  branch_if : Lines → Expr → List Plain → ℕ → Native
  -- transfer to a key at 4
  jump : Lines → ℕ → Native
  -- the same, for a fused pair
  pair : Lines → ℕ → Native
  -- { uint32_t t = e; if (t & 1u) { ..; return ..; } ..; return ..; }
  bx : Lines → Expr → Native
  -- { one statement; lines at 6; one statement; return e; }
  pop : Lines → Plain → Lines → Plain → Expr → Native

-- what emit_block makes of a record, or of a fused pair
pub data Form : Type 0 where
  native : Native → Form
  -- a shell (document 01), which calls interp_one: whether it is an unfused ThumbBlHigh, after
  -- which, where it is the block's last, the closing transfer is printed too; the lines before; the
  -- key after it
  shell : Bool → Lines → ℕ → Form

-- whether a form is native
abbrev pub is_native : Form → Bool
is_native (native r) = true
is_native (shell high t k) = false

-- how many records a native form carries out
abbrev pub records_in : Native → ℕ
records_in (straight t l) = 1
records_in (straight_if t e l) = 1
records_in (branch_if t e s k) = 1
records_in (jump t k) = 1
records_in (pair t k) = 2
records_in (bx t e) = 1
records_in (pop t s l u e) = 1

-- a block as it is printed: its address, whether it is Thumb, how many instructions it has, the
-- hash of its code bytes or their absence, the forms of its instructions in their order, and the
-- cycles pending after the last one
pub record Body : Type 0 where
  pub addr : ℕ
  pub thumb : Bool
  pub count : ℕ
  pub hash : Option ℕ
  pub forms : List Form
  pub pending : ℕ
