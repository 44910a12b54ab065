-- `region_of` computes what the definition says.
-- Assumes nothing.
use Rattle.std.proofs.Common.{refl}
use Rattle.file_blocks.proofs.instrs.region_of.Goals as goal

pub returns : goal.returns
returns c = refl
