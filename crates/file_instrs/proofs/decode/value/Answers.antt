-- `value` makes the operand of a value: without a rotation where it is by 0.
use mathlib.Core.Path.{sym, ap, ◌∙◌}
use Rattle.armv4t.specs.declared.Operand2.{Operand2}
use Rattle.file_instrs.proofs.decode.value.Goals as goal

pub returns-then-ror-eq0 : goal.returns-then-ror-eq0
returns-then-ror-eq0 c = c.imm.ensures
    ∙ ap (Operand2.Imm c.args.value) (sym c.if-ror-eq0.true)
