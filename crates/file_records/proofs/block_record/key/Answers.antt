-- `key` gives the key of a block by the address and the Thumb flag of its record.
-- Assumes nothing.
use mathlib.Core.Path.{◌∙◌, ap₂}
use Rattle.file_records.specs.BlockRecord.{key_plus}
use Rattle.file_records.proofs.block_record.key.Goals as goal

pub returns : goal.returns
returns c = record {
  key = c.key_plus.ensures.key
      ∙ ap₂ key_plus c.addr.ensures c.thumb.ensures;
  small = c.key_plus.ensures.small;
}
