-- `mul_long` reads a MulLong record byte by byte.
use Rattle.file_instrs.specs.Decode.{mul_long_at}
use Rattle.file_instrs.proofs.record.Record.mul_long.Goals as goal

pub returns : goal.returns
unfolding mul_long_at
returns c = cc
