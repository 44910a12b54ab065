-- `armv4t::clear_bit0` meets its contract: the mask keeps bits 1 to 31, and a `u32` has no others.
-- Assumes nothing.
use Rattle.std.proofs.Common.{arith}
use lib.Bits.{and_high}
use Rattle.armv4t.proofs.clear_bit0.Goals as goal

pub returns : goal.returns
returns c = omega (arith, and_high c.args.x 31 1)
