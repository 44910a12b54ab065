-- `byte_length` gives a block's length in bytes: its count times the size of its instructions, both
-- as the record has them.
use mathlib.Core.Path.{◌∙◌, ap₂}
use Rattle.file_records.specs.BlockRecord.{length_of}
use Rattle.file_records.proofs.block_record.byte_length.Goals as goal

pub returns : goal.returns
returns c = record {
  length = c.instrs_length.ensures.length
      ∙ ap₂ length_of c.count.ensures c.thumb.ensures;
  small = c.instrs_length.ensures.small;
}
