-- The lines of an instruction by its fields, and whether it has any.
use mathlib.Core.Path.{◌≡◌, refl, ap, ◌∙◌}
use Prim.Native.Nat.{ℕ}
use mathlib.Core.Bool.{Bool, true, false, not, cond}
use mathlib.Core.Option.{Option, none, some, some-injective, none-ne-some}
use lib.Dec.{eqb}
use Rattle.armv4t.specs.declared.AluOp.{AluOp}
use Rattle.armv4t.specs.declared.Operand2.{Operand2}
use Rattle.armv4t.specs.declared.Instr.{Instr}
use Rattle.armv4t.specs.declared.Op.TheVariants.{Alu, Mul}
use Rattle.armv4t.specs.Instr.{pc_value}
use Rattle.c_tree.specs.Expr.{Expr}
use Rattle.lower_forms.specs.Forms.{Lines}
use Rattle.lower_forms.specs.Operands.{reg_expr, op2_exprs, reg_of, operand_of}
use Rattle.lower_forms.specs.InlineBody.{each_on_line, alu, alu_body, mul_body, op_body}
use Rattle.base_lists.specs.Lists.{is_some}
use Rattle.emit_operands.proofs.Operands.{operand_of_lem}

-- Alu, if it has lines
pub alu_lines : (thumb : Bool) (i : Instr) (op : AluOp) (s : Bool) (rd rn : ℕ) (op2 : Operand2)
    (ls : Lines)
    → op_body thumb i (Alu op s rd rn op2) ≡ some ls
    → each_on_line (alu op s rd (reg_of (pc_value i) rn) (operand_of (pc_value i) op2).0
    (operand_of (pc_value i) op2).1) ≡ ls
alu_lines thumb i op s rd rn op2 ls p = of-rd (eqb rd 15) p
  where
    of-op2 : (b : Option (Expr × Option Expr)) → op2_exprs i op2 ≡ b
        → alu_body op s rd (reg_expr i rn) b ≡ some ls
        → each_on_line (alu op s rd (reg_of (pc_value i) rn) (operand_of (pc_value i) op2).0
        (operand_of (pc_value i) op2).1) ≡ ls
    of-op2 none e q = absurd (none-ne-some _ q)
    of-op2 (some b) e q =
        ap (λ (x : Expr × Option Expr). each_on_line
        (alu op s rd (reg_of (pc_value i) rn) x.0 x.1))
        (operand_of_lem i op2 b e)
        ∙ some-injective _ _ q

    of-rd : (t : Bool) → cond t none (alu_body op s rd (reg_expr i rn) (op2_exprs i op2)) ≡ some ls
        → each_on_line (alu op s rd (reg_of (pc_value i) rn) (operand_of (pc_value i) op2).0
        (operand_of (pc_value i) op2).1) ≡ ls
    of-rd true q = absurd (none-ne-some _ q)
    of-rd false q = of-op2 (op2_exprs i op2) refl q

-- Mul, if it has lines
pub mul_lines_lem : (thumb : Bool) (i : Instr) (acc s : Bool) (rd rn rs rm : ℕ) (ls : Lines)
    → op_body thumb i (Mul acc s rd rn rs rm) ≡ some ls → each_on_line (mul_body acc s rd rn rs rm) ≡ ls
mul_lines_lem thumb i acc s rd rn rs rm ls p = of-rd (eqb rd 15) p
  where
    of-rd : (t : Bool) → cond t none (some (each_on_line (mul_body acc s rd rn rs rm))) ≡ some ls
        → each_on_line (mul_body acc s rd rn rs rm) ≡ ls
    of-rd true q = absurd (none-ne-some _ q)
    of-rd false q = some-injective _ _ q

-- whether they have lines
pub alu_has : (i : Instr) (op : AluOp) (s : Bool) (rd rn : ℕ) (op2 : Operand2)
    → is_some (op2_exprs i op2) ≡ is_some (alu_body op s rd (reg_expr i rn) (op2_exprs i op2))
alu_has i op s rd rn op2 = of-op2 (op2_exprs i op2)
  where
    of-op2 : (b : Option (Expr × Option Expr))
        → is_some b ≡ is_some (alu_body op s rd (reg_expr i rn) b)
    of-op2 none = refl
    of-op2 (some b) = refl

pub cond_has : {A : Type 0} (b : Bool) (x : A) → not b ≡ is_some (cond b none (some x))
cond_has true x = refl
cond_has false x = refl
