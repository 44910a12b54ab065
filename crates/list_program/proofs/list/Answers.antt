use Rattle.std.proofs.Common.{take, length-take-le, arith}
use Rattle.list_program.proofs.Read.{printed}
use Rattle.list_program.proofs.list.Goals as goal

pub returns : goal.returns
returns g c =
    printed _ _ _ _ _ (take c.in_ok-n.n c.fill.new.out) _ c.in_ok-n.ensures.bytes
    (λ short. c.in_ok-n.ensures.end (omega (
      arith,
      short,
      c.in_ok-n.ensures.size,
      c.in_ok-n.ensures.within,
      length-take-le c.in_ok-n.n c.fill.new.out c.in_ok-n.ensures.within,
    )))
    c.put_output-length.ensures.1 c.write_all.ensures.bytes
