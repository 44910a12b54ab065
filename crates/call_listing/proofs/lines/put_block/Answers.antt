-- `put_block` writes the line of a block, by its record.
-- Assumes nothing.
use Rattle.std.proofs.Common.{subst}
use Rattle.call_listing.proofs.Blocks.{block_line_lem}
use Rattle.base_text.specs.Doc.{Doc}
use Rattle.base_text.specs.Wrote.{Wrote}
use Rattle.call_listing.proofs.lines.put_block.Goals as goal

pub returns : goal.returns
returns c =
    λ i is. subst
    (λ (d : Doc). Wrote
    c.args.out.now
    c.args.at d
    c.put_line.new.out c.put_line.result)
    (block_line_lem is _ _ _ c.key_of.ensures
    (c.exits_at-exits.ensures i is))
    c.put_line.ensures
