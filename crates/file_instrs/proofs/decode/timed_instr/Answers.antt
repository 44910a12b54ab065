-- `timed_instr` puts condition, operation and cost of a record together, each as its reader gives
-- it.
use Rattle.file_instrs.specs.Decode.{timed_at}
use Rattle.file_instrs.proofs.decode.timed_instr.Goals as goal

pub returns : goal.returns
unfolding timed_at
returns c = cc
