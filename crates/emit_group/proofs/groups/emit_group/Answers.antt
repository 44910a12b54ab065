-- `emit_group` tells a lone block from a group of several by the number of rows.
-- Assumes nothing.
use native.Mathlib.Omega.{arith}
use Rattle.plan_members.proofs.RowKeys.{group_size}
use Rattle.emit_group.proofs.groups.emit_group.Goals as goal

pub returns-then-rows-eq1 : goal.returns-then-rows-eq1
returns-then-rows-eq1 c =
    λ limit g is. c.put_lone.ensures limit g is
    (omega (arith, c.if-rows-eq1.true, c.requires.1))

pub returns-else-rows-eq1 : goal.returns-else-rows-eq1
returns-else-rows-eq1 c =
    λ limit g is. c.put_several.ensures limit g is
    (omega (arith, group_size is, c.if-rows-eq1.false, c.requires.1))
