-- `row_block` reads quarter 0.
-- Assumes nothing.
use mathlib.Core.Path.{refl}
use native.Mathlib.Omega.{arith}
use Rattle.plan_members.proofs.Places.{row_member}
use Rattle.plan_members.proofs.rows.row_block.Goals as goal

pub overflow_cast-result : goal.overflow_cast-result
overflow_cast-result c = omega (arith, c.shared_slice_known-1.given c.args.p)

pub returns : goal.returns
returns c = record { number = refl; planned = λ f n limit g k ready is h. row_member ready _ g k is h }
