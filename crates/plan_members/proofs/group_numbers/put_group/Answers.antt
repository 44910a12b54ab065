-- `put_group` takes one row more into quarter 1.
-- Assumes nothing.
use mathlib.Core.Path.{refl}
use native.Mathlib.Omega.{arith}
use Rattle.plan_members.proofs.Groups.{groups_put, groups_kept}
use Rattle.plan_members.proofs.group_numbers.put_group.Goals as goal

pub overflow_cast-i : goal.overflow_cast-i
overflow_cast-i c = omega (arith, c.slice_known-1.given c.args.p)

pub returns-then-i-n : goal.returns-then-i-n
returns-then-i-n c =
    λ work₀ from. groups_put _ _ _ work₀ _ c.requires.2
    c.requires.0 refl from (omega arith)

pub returns-else-i-n : goal.returns-else-i-n
returns-else-i-n c =
    λ work₀ from. groups_kept _ _ _ work₀ _ c.requires.2 c.requires.0
    refl from (omega arith)
