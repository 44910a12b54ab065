-- `even_fields` tells whether the fields that must be even are. Both tests are made at once, which
-- is right since no kind is both Alu and Branch.
use Rattle.file_instrs.proofs.Limits.{no_odd}
use Rattle.file_instrs.proofs.record.Record.even_fields.Goals as goal

pub returns : goal.returns
returns c = no_odd _ _
