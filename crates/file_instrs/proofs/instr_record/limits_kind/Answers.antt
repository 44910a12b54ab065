-- `limits_kind` gives a kind below 10 with the same limits: kinds from 10 on leave all free, as
-- Swap does.
use borrow.Author.Rules.{rules}
use Rattle.file_instrs.proofs.Limits.{free_kind}
use Rattle.file_instrs.proofs.instr_record.limits_kind.Goals as goal

pub returns-else-kind-lt10 : goal.returns-else-kind-lt10
returns-else-kind-lt10 c = record { small = search rules; same = λ form. free_kind c.args.kind form c.if-kind-lt10.false }
