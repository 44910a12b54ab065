-- `group_blocks` puts the blocks in the order of their keys, then groups them.
use Rattle.plan_groups.proofs.Grouping as grouping
use native.Mathlib.Omega.{arith}
use Rattle.file_keys.proofs.Reading.{right_blocks}
use Rattle.plan_groups.proofs.groups.group_blocks.Goals as goal

pub order_blocks-requires : goal.order_blocks-requires
order_blocks-requires c =
    (right_blocks _ c.requires.1, omega (arith, c.requires.0.0, c.requires.0.2))

pub group_ordered-requires : goal.group_ordered-requires
group_ordered-requires c = record { has_room = ((omega (arith, c.order_blocks.ensures.same, c.requires.0.0), c.requires.0.1, c.requires.0.2), c.requires.1); has_order = grouping.has_order _ _ _ _ c.requires.0.2 c.order_blocks.ensures }

pub returns : goal.returns
returns c =
    grouping.grouped_from _ _ _ _ _ _ c.requires.0.2 c.order_blocks.ensures
    c.group_ordered.ensures
