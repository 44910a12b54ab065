-- What is written of an instruction's lines are the lines that the definition has for it.
use Rattle.std.proofs.Common.{◌≡◌, ℕ, Bool, true, false, cond, List, [], sym, ap, ◌∙◌}
use mathlib.Core.Option.{Option, none, some, some-injective, none-ne-some}
use Rattle.armv4t.specs.declared.AluOp.{AluOp}
use Rattle.armv4t.specs.declared.Operand2.{Operand2}
use Rattle.armv4t.specs.declared.Instr.{Instr}
use Rattle.armv4t.specs.declared.Op.{Op}
use Rattle.armv4t.specs.declared.Op.TheVariants.{Alu}
use Rattle.armv4t.specs.Instr.{pc_value}
use Rattle.base_text.specs.Flat.{flat}
use Rattle.base_text.specs.Wrote.{Wrote}
use Rattle.base_text.proofs.Laws.{wrote_as}
use Rattle.lower_forms.specs.Forms.{Lines}
use Rattle.lower_forms.specs.InlineBody.{each_on_line, alu, op_body, inline_body}
use Rattle.lower_units.specs.Lines.{lines_text}
use Rattle.lower_forms.specs.Operands.{reg_of, operand_of}
use Rattle.emit_alu.proofs.Bodies.{alu_lines}

-- equal lines have one text
pub as_lines : {o o' : List ℕ} {at r : ℕ} (ls body : Lines) → ls ≡ body
    → Wrote o at (lines_text 8 ls) o' r
    → Wrote o at (lines_text 8 body) o' r
as_lines ls body e w = wrote_as w (ap (λ (l : Lines). flat (lines_text 8 l) []) e)

-- the lines of an instruction whose operation is known
pub known_body : (thumb : Bool) (i : Instr) (op : Op) (body : Lines) → i.op ≡ op
    → inline_body thumb i ≡ some body
    → op_body thumb i op ≡ some body
unfolding inline_body
known_body thumb i op body p e = sym (ap (op_body thumb i) p) ∙ e

-- lines that are there after a test
pub tested : (b : Bool) (ls : Option Lines) (body : Lines) → cond b none ls ≡ some body
    → ls ≡ some body
tested true ls body e = absurd (none-ne-some _ e)
tested false ls body e = e

pub tested_lines : (b : Bool) (ls body : Lines) → cond b none (some ls) ≡ some body → ls ≡ body
tested_lines b ls body e = some-injective _ _ (tested b (some ls) body e)

-- Alu, by a number that is its PC value
pub alu_by_pc : (thumb : Bool) (i : Instr) (op : AluOp) (s : Bool) (rd rn : ℕ) (op2 : Operand2)
    (pc : ℕ) (body : Lines) → pc ≡ pc_value i
    → op_body thumb i (Alu op s rd rn op2) ≡ some body
    → each_on_line (alu op s rd (reg_of pc rn) (operand_of pc op2).0 (operand_of pc op2).1) ≡ body
alu_by_pc thumb i op s rd rn op2 pc body p e =
    ap (λ (n : ℕ). each_on_line (alu op s rd (reg_of n rn) (operand_of n op2).0 (operand_of n op2).1))
    p
    ∙ alu_lines thumb i op s rd rn op2 body e
