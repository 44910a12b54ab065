-- Steps: the operands of data processing by its fields, and its lines as text.
use Rattle.std.proofs.Math.Option.{Option}
use Rattle.base_text.specs.Doc.{Doc}
use Rattle.c_tree.specs.Expr.{Expr}
use Rattle.lower_forms.specs.InlineBody.{alu, logical_rest, sum}
use Rattle.lower_forms.specs.Operands.{reg_of, operand_of}
use Rattle.emit_alu.specs.declared.alu.Processing.{Processing}
use Rattle.emit_alu.specs.Texts.{statements_text}

-- the first operand
abbrev pub first : Processing → Expr
first a = reg_of a.pc a.rn

-- the second operand
abbrev pub second : Processing → Expr
second a = (operand_of a.pc a.op2).0

-- the carry out of the second operand, if it gives one
abbrev pub carry_out : Processing → Option Expr
carry_out a = (operand_of a.pc a.op2).1

-- all lines
abbrev pub alu_text : Processing → Doc
alu_text a = statements_text (alu a.op a.s a.rd (first a) (second a) (carry_out a))

-- the lines after the first, of an operation that takes the carry from its second operand
abbrev pub logical_rest_text : Processing → Doc
logical_rest_text a = statements_text (logical_rest a.op a.s a.rd (carry_out a))

-- the lines of a sum of x, y and the carry z
abbrev pub sum_text : Processing → Expr → Expr → Expr → Doc
sum_text a x y z = statements_text (sum a.op a.s a.rd x y z)
