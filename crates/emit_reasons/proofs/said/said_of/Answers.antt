-- `said_of` says what the reason is of an instruction that has one.
-- Assumes nothing.
use Rattle.std.proofs.Common.{ap, ◌∙◌}
use Rattle.emit_sentences.specs.Steps.{said_by}
use Rattle.emit_reasons.proofs.Telling.{said_shell, said_native}
use Rattle.emit_reasons.proofs.said.said_of.Goals as goal

pub returns-in_err-reason : goal.returns-in_err-reason
returns-in_err-reason c =
    let why = c.reason_of in
    let a = c.args in
    ap said_by c.from_residual.ensures
    ∙ said_native a.region a.i why.result why.ensures c.in_err-reason.was

pub returns : goal.returns
returns c =
    let why = c.reason_of in
    let kind = c.kind_of-kind in
    let a = c.args in
    said_shell a.region a.i why.result why.ensures kind.result _ c.in_ok-reason.was kind.ensures
