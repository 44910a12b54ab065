-- `alu` reads an Alu record byte by byte.
use Rattle.file_instrs.specs.Decode.{alu_at}
use Rattle.file_instrs.proofs.record.Record.alu.Goals as goal

pub returns : goal.returns
unfolding alu_at
returns c = cc
