-- `put_load_ob` leaves the register that the load has set. Assumes nothing.
use mathlib.Core.Bool.{and-false}
use Rattle.std.proofs.Common.{rules, eq-eqb}
use Rattle.base_text.proofs.Laws.{none}
use Rattle.emit_mem.proofs.access.put_load_ob.Goals as goal

pub returns-then-rn-rd : goal.returns-then-rn-rd
returns-then-rn-rd c =
    rw (eq-eqb _ _ c.if-rn-rd.true, and-false c.args.wb) (none (search rules) (search rules))
