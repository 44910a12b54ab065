-- `file_instrs::instr_record::instr_right` meets its contract: the limits that the code
-- compares with are those of the kind and the form. Assumes nothing.
use mathlib.Core.Path.{sym, ap, ◌∙◌}
use native.Mathlib.Omega.{arith}
use Rattle.file_instrs.specs.InstrRecord.{within as limits-within}
use Rattle.file_instrs.proofs.Limits.{all_long, limits_of, out_of_range, in_range}
use Rattle.file_instrs.proofs.instr_record.instr_right.Goals as goal

pub within-requires : goal.within-requires
within-requires c =
    (c.requires.0, rw (c.requires.1, all_long) (omega (arith, c.limits_number-number.ensures.small)))

pub returns-then-not-within : goal.returns-then-not-within
returns-then-not-within c =
    let number = c.limits_number-number in
    let limits =
    limits_of c.args.limits.now number.result _ _ c.requires.1 number.ensures.small
    number.ensures.same in
    out_of_range _ _
    (ap (limits-within c.args.file.now c.args.at) (sym limits)
    ∙ sym c.within.ensures ∙ c.if-not-within.true)

pub returns : goal.returns
returns c =
    let number = c.limits_number-number in
    let limits =
    limits_of c.args.limits.now number.result _ _ c.requires.1 number.ensures.small
    number.ensures.same in
    c.even_fields.ensures
    ∙ in_range _ _
    (ap (limits-within c.args.file.now c.args.at) (sym limits)
    ∙ sym c.within.ensures ∙ c.if-not-within.false)
