-- `limits_form` gives a form below 3 with the same limits: a form that does not exist has those of
-- form 0.
use borrow.Author.Rules.{rules}
use Rattle.file_instrs.proofs.Limits.{no_form}
use Rattle.file_instrs.proofs.instr_record.limits_form.Goals as goal

pub returns-else-form-lt3 : goal.returns-else-form-lt3
returns-else-form-lt3 c = record { small = search rules; same = λ kind. no_form kind c.args.form c.if-form-lt3.false }
