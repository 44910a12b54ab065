-- `armv4t::set_bit0` meets its contract: the lowest bit of `x | 1` is 1, and the others are those
-- of x. Assumes nothing.
use Rattle.std.proofs.Common.{◌/◌, arith}
use lib.Bits.{or_step, or_zero_r}
use Rattle.armv4t.proofs.set_bit0.Goals as goal

pub returns : goal.returns
returns c = omega (arith, or_step c.args.x 1, or_zero_r (c.args.x / 2))
