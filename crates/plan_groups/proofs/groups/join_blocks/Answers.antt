use Rattle.plan_groups.proofs.Lending as lending
use Rattle.plan_groups.proofs.Grouping as grouping
use mathlib.Core.Path.{◌∙◌}
use native.Mathlib.Omega.{arith}
use Rattle.plan_groups.proofs.groups.join_blocks.Goals as goal

pub own_roots-requires : goal.own_roots-requires
own_roots-requires c = let w = c.args.work.now in
    let n = c.args.n in
    rw (lending.lent_is n w, lending.quarter_length n w c.requires.has_room.0)
    (omega arith)

pub loop-i-init : goal.loop-i-init
loop-i-init c =
    grouping.edges_none _ _ _ _ c.requires.has_room.0
    (rw lending.lent_is at c.own_roots.ensures)
    c.requires.accepted.0 c.requires.has_room.2

pub join_block-requires : goal.join_block-requires
join_block-requires c =
    let own = (rw lending.lent_is at c.own_roots.ensures) in
    let inv = c.loop-i.invariant in
    let room = grouping.own_room c.args.file.now _ _ _ c.requires.has_room.0 own in record {
      has_room_at = (
        grouping.edges_room _ _ _ _ _ room inv,
        c.requires.has_room.1,
        c.loop-i-test.true,
        c.requires.has_room.2,
      );
      accepted = (
        c.requires.accepted.0,
        grouping.edges-order _ _ _ _ _ room inv
            (grouping.own_order _ _ _ _ c.requires.has_room.0 own c.requires.accepted.1),
      );
      has_firsts = grouping.edges-firsts _ _ _ _ _ room inv
          (grouping.own_firsts _ _ _ _ c.requires.has_room.0 own c.requires.has_firsts);
      forest = inv.forest;
    }

pub loop-i-preserved : goal.loop-i-preserved
loop-i-preserved c =
    grouping.edges_more _ _ _ _ _ _ c.requires.accepted.0 c.loop-i-test.true
    c.requires.has_room.2 c.loop-i.invariant
    c.join_block.ensures

pub shape_of-work : goal.shape_of-work
shape_of-work c =
    c.loop-i.invariant.same
    ∙ grouping.own_length
    c.args.file.now _ _ _
    c.requires.has_room.0
    (rw lending.lent_is at c.own_roots.ensures)

pub returns : goal.returns
returns c =
    let own = (rw lending.lent_is at c.own_roots.ensures) in
    grouping.edges_from _ _ _ _ c.requires.has_room.0 own _
    (grouping.edges_done _ _ _ _ _
    (grouping.own_room
    c.args.file.now _ _ _
    c.requires.has_room.0 own) c.requires.accepted.0 c.requires.has_room.2 (omega arith) c.loop-i.invariant)
