-- `is_listed` is bit r of the list; from 16 on there is none.
-- Assumes nothing.
use Rattle.std.proofs.Common.{◌^◌, ◌<◌, ◌∙◌, arith, le-ltb}
use Rattle.armv4t.proofs.RegisterList.{lists_past}
use Rattle.armv4t.proofs.is_listed.Goals as goal

pub returns-else-r-lt16 : goal.returns-else-r-lt16
returns-else-r-lt16 c =
    let small : c.args.rlist < 2 ^ 16 = omega arith in
    le-ltb c.args.r 16 c.if-r-lt16.false
    ∙ lists_past c.args.rlist c.args.r small c.if-r-lt16.false
