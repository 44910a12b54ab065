-- `has_key` compares the key of a member, where there is one.
-- Assumes nothing.
use native.Mathlib.Omega.{arith}
use Rattle.plan_members.proofs.Among.{says_here, says_past}
use Rattle.plan_members.proofs.RowKeys.{group_size, keys_size, key_inside, row_of}
use Rattle.plan_members.proofs.lookup.has_key.Goals as goal

pub returns-then-k-rows : goal.returns-then-k-rows
returns-then-k-rows c = λ limit g is.
    says_here _ _ _ _ (key_inside is _ (omega arith))
    (c.row_key.ensures _ limit g _ (row_of is _ (omega (arith, group_size is))))

pub returns-else-k-rows : goal.returns-else-k-rows
returns-else-k-rows c = λ limit g is. says_past _ _ _ (omega (arith, keys_size is, group_size is))
