-- `mul_is_inlined` answers whether a multiplication is lowered to lines.
-- Assumes nothing.
use lib.Dec.{eqb}
use Rattle.emit_alu.proofs.Bodies.{cond_has}
use Rattle.lower_forms.specs.InlineBody.{each_on_line, mul_body}
use Rattle.emit_alu.proofs.mul.mul_is_inlined.Goals as goal

pub returns : goal.returns
returns c = let rd = c.args.rd in
    λ thumb i acc s rn rs rm. cond_has (eqb rd 15) (each_on_line (mul_body acc s rd rn rs rm))
