-- `mul` reads a Mul record byte by byte.
use Rattle.file_instrs.specs.Decode.{mul_at}
use Rattle.file_instrs.proofs.record.Record.mul.Goals as goal

pub returns : goal.returns
unfolding mul_at
returns c = cc
