-- `first_of` reads quarter 3.
-- Assumes nothing.
use native.Mathlib.Omega.{arith}
use Prim.Native.Nat.{◌+◌, ◌*◌}
use Rattle.plan_members.proofs.rows.first_of.Goals as goal

pub overflow_cast-result : goal.overflow_cast-result
overflow_cast-result c =
    omega (arith, c.shared_slice_known-1.given (3 * c.args.n + c.args.i))

pub returns : goal.returns
returns c = λ f limit ready. ready.firsts _ c.requires.2
