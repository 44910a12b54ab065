-- `group_ordered` groups the blocks of a file whose key order is at hand: what each of its five
-- steps leaves in the work numbers is what the next asks for.
use Rattle.plan_groups.proofs.Grouping as grouping
use native.Mathlib.Omega.{arith}
use Rattle.plan_groups.proofs.groups.group_ordered.Goals as goal

pub first_instrs-requires : goal.first_instrs-requires
first_instrs-requires c = c.requires.has_room

pub join_blocks-requires : goal.join_blocks-requires
join_blocks-requires c = record { has_room = (omega (arith, c.first_instrs.ensures.same, c.requires.has_room.0.0), c.requires.has_room.0.1, c.requires.has_room.0.2); accepted = (c.requires.has_room.1, grouping.firsts_order _ _ _ _ c.requires.has_room.0.0 c.first_instrs.ensures c.requires.has_order); has_firsts = c.first_instrs.ensures.firsts }

pub link_members-requires : goal.link_members-requires
link_members-requires c =
    let asks =
    grouping.link_asks _ _ c.args.limit _ _ _ _ c.requires.has_room.1 c.requires.has_room.0.1
    c.requires.has_room.0.2 c.requires.has_room.0.0 c.requires.has_order
    c.first_instrs.ensures c.join_blocks.ensures c.put_roots.ensures in
    record { n_in_bounds = asks.0; all_once = asks.1 }

pub place_blocks-requires : goal.place_blocks-requires
place_blocks-requires c =
    let asks =
    grouping.place_asks _ _ c.args.limit _ _ _ _ c.requires.has_room.1 c.requires.has_room.0.1
    c.requires.has_room.0.2 c.requires.has_room.0.0 c.requires.has_order
    c.first_instrs.ensures c.join_blocks.ensures c.put_roots.ensures _
    c.link_members.ensures.kept c.link_members.ensures.links in
    record { has_room = asks.0; all_once = asks.1.0; linked = asks.1.1 }

pub returns : goal.returns
returns c =
    grouping.grouped _ _ _ _ _ _ _ c.requires.has_room.1 c.requires.has_room.0.1 c.requires.has_room.0.2 c.requires.has_room.0.0
    c.requires.has_order c.first_instrs.ensures c.join_blocks.ensures
    c.put_roots.ensures _ c.link_members.ensures.kept c.link_members.ensures.links _
    c.place_blocks.ensures
