-- `row_key` is the key of the block that stands in the row.
-- Assumes nothing.
use Rattle.plan_members.proofs.RowKeys.{key_member}
use Rattle.plan_members.proofs.keys.row_key.Goals as goal

pub returns : goal.returns
returns c = λ n limit g k row.
    key_member limit _ g k _ _ (c.block_key.ensures row.ready.accepted)
    (c.row_block.ensures.planned _ n limit g k row.ready row.place row.inside)
    row.inside
