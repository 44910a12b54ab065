use Rattle.plan_groups.proofs.Ordering as ordering
use mathlib.Core.Path.{sym, ◌∙◌}
use native.Mathlib.Omega.{arith}
use Rattle.plan_groups.proofs.order.place_blocks.Goals as goal

pub loop-place-init : goal.loop-place-init
loop-place-init c =
    ordering.placing_none _ _ _ _ c.requires.has_room.0.1 c.requires.has_room.0.0 c.requires.all_once c.requires.linked

pub count_of-count-requires : goal.count_of-count-requires
count_of-count-requires c =
    (c.requires.has_room.1, omega (arith, c.requires.has_room.0.2))

pub loop-place-preserved-then-h-n : goal.loop-place-preserved-then-h-n
loop-place-preserved-then-h-n c =
    ordering.placing_next _ _ _ _ _ _ _ _ _ _ _
    c.loop-place.invariant
    c.loop-place-test.true
    c.if-h-n.true _
    c.count_of-count.ensures.small
    (λ counts has. has _ (omega arith) ∙ sym c.count_of-count.ensures.count) _
    c.take_block-part.ensures _
    c.put_row.ensures

pub shape_of-work-then-size-r : goal.shape_of-work-then-size-r
shape_of-work-then-size-r c = c.loop-place.invariant.same

pub returns-then-size-r : goal.returns-then-size-r
returns-then-size-r c =
    ordering.placing_done _ _ _ _ _ _ _ _ _ _ _ c.loop-place.invariant
    c.if-h-n.false c.if-size-r.true

pub loop-place-preserved : goal.loop-place-preserved
loop-place-preserved c =
    rw c.close_part-group.ensures
    (ordering.placing_component _ _ _ _ _ _ _ _ _ _ _
    c.loop-place.invariant c.if-h-n.false
    c.if-size-r.false)

pub shape_of-work : goal.shape_of-work
shape_of-work c = c.loop-place.invariant.same

pub returns : goal.returns
returns c = ordering.placing_all _ _ _ _ _ _ _ _ _ _ _ c.loop-place.invariant c.loop-place-test.false
