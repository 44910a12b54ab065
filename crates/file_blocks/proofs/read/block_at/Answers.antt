-- `block_at` reads a record where it stands, if it does.
use Rattle.std.proofs.Common.{Some, sym, ap, ◌∙◌, option_map}
use Rattle.file_blocks.specs.Read.{record_at}
use Rattle.file_blocks.proofs.Reading.{block_read}
use Rattle.file_blocks.proofs.read.block_at.Goals as goal

pub returns-in_err-at : goal.returns-in_err-at
returns-in_err-at c =
    c.from_residual.ensures
    ∙ ap (option_map (record_at c.args.file.now))
    (sym c.in_err-at.was ∙ c.record_offset.ensures.found)
    ∙ block_read _ _

pub returns : goal.returns
returns c =
    ap Some c.block_record.ensures
    ∙ ap (option_map (record_at c.args.file.now))
    (sym c.in_ok-at.was ∙ c.record_offset.ensures.found)
    ∙ block_read _ _
