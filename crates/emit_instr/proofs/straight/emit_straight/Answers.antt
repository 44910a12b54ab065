-- `straight::emit_straight` meets its contract: by whether there are lines. Assumes nothing.
use Rattle.std.proofs.Common.{sym, ap, ◌∙◌}
use mathlib.Core.Option.{none, some}
use Rattle.lower_forms.specs.InlineBody.{inline_body}
use Rattle.lower_forms.specs.Block.{emit_lines}
use Rattle.emit_instr.proofs.Chosen.{there, missing}
use Rattle.emit_instr.proofs.Steps.{same_form}
use Rattle.emit_instr.proofs.straight.emit_straight.Goals as goal

pub returns-then-is_inlined : goal.returns-then-is_inlined
returns-then-is_inlined c =
    let a = c.args in
    let body =
    there (inline_body a.thumb a.x.instr)
    (sym c.is_inlined.ensures ∙ c.if-is_inlined.true) in
    λ ks b j fs h g.
    same_form (emit_lines a.thumb a.touches_bus a.cycles a.x (some body.0)) _
    (ap (emit_lines a.thumb a.touches_bus a.cycles a.x) (sym body.1))
    (c.emit_lowered.ensures body.0 body.1 ks b j fs g)

pub returns-else-is_inlined : goal.returns-else-is_inlined
returns-else-is_inlined c =
    let a = c.args in
    λ ks b j fs h g.
    same_form (emit_lines a.thumb a.touches_bus a.cycles a.x none) _
    (ap (emit_lines a.thumb a.touches_bus a.cycles a.x)
    (missing (inline_body a.thumb a.x.instr)
    (sym c.is_inlined.ensures ∙ c.if-is_inlined.false)))
    (c.emit_interpreted.ensures ks b j fs h)
