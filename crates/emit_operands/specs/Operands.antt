-- Steps: expressions that may be missing, and the shifts of a register: what the writers of
-- operands write, and test for.
use Rattle.std.specs.Prelude.{ℕ}
use Rattle.std.proofs.Math.Option.{Option, none, some}
use Rattle.base_text.specs.Doc.{Doc, nothing}
use Rattle.c_tree.specs.Expr.{Expr}
use Rattle.c_tree.specs.Print.{expr_text}
use Rattle.armv4t.specs.declared.ShiftKind.{ShiftKind}
use Rattle.lower_forms.specs.Operands.{reg_of, shift_exprs}
use Rattle.emit_operands.specs.declared.Source.{Source}

-- an expression that may be missing
abbrev pub carry_text : Option Expr → Doc
carry_text none = nothing
carry_text (some e) = expr_text e

-- the register that is shifted
abbrev pub source_expr : Source → Expr
source_expr from = reg_of from.pc from.n

-- the register shifted, by the kind of shift and the amount as encoded
abbrev pub shifted_text : Source → ShiftKind → ℕ → Doc
shifted_text from kind amount = expr_text (shift_exprs (source_expr from) kind amount).0

-- the carry out of that shift
abbrev pub shift_carry_text : Source → ShiftKind → ℕ → Doc
shift_carry_text from kind amount = carry_text (shift_exprs (source_expr from) kind amount).1
