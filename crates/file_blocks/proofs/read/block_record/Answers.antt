-- `block_record` puts the five fields of a block record together, each as its reader gives it.
use Rattle.file_blocks.specs.Read.{record_at}
use Rattle.file_blocks.proofs.read.block_record.Goals as goal

pub returns : goal.returns
unfolding record_at
returns c = cc
