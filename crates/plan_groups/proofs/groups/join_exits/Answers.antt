-- `join_exits` makes the edges of an exit list, the first before the second. Each makes a way at
-- most one step longer.
use Rattle.plan_groups.proofs.Joining as joining
use Rattle.base_forest.proofs.Roots.{deeper}
use native.Mathlib.Omega.{arith}
use Rattle.plan_groups.proofs.groups.join_exits.Goals as goal

pub join_key-requires : goal.join_key-requires
join_key-requires c = record { has_room_at = c.requires.has_room_at; accepted = c.requires.accepted; forest = deeper c.requires.forest _ (omega arith) }

pub join_key-requires-in-Two : goal.join_key-requires-in-Two
join_key-requires-in-Two c = record { has_room_at = c.requires.has_room_at; accepted = c.requires.accepted; forest = deeper c.requires.forest _ (omega arith) }

pub join_key-requires-in-Two-2 : goal.join_key-requires-in-Two-2
join_key-requires-in-Two-2 c = record { has_room_at = (omega (arith, c.join_key-in-Two.ensures.same), c.requires.has_room_at.1, c.requires.has_room_at.2, c.requires.has_room_at.3); accepted = (c.requires.accepted.0, joining.order_kept _ _ _ (omega arith) c.join_key-in-Two.ensures c.requires.accepted.1); forest = deeper (c.join_key-in-Two.ensures.depth _ c.requires.forest) _ (omega arith) }

pub returns-in-None : goal.returns-in-None
returns-in-None c = joining.exits_none _ _ _ _ _ c.in-None.is

pub returns-in-One : goal.returns-in-One
returns-in-One c =
    joining.exits_one _ _ _ _ _ _ _ c.in-One.is
    c.join_key.ensures

pub returns-in-Two : goal.returns-in-Two
returns-in-Two c =
    joining.exits_two _ _ _ _ _ _ _ _ _
    c.in-Two.is
    c.join_key-in-Two.ensures
    c.join_key-in-Two-2.ensures
