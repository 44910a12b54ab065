-- What is printed to the part from index `at` on is written to the whole.
use Rattle.std.proofs.Common.{refl, rules}
use Rattle.base_text.proofs.Printers.{lent}
use Rattle.base_text.proofs.lend.Goals as goal

pub returns : goal.returns
returns g c =
    λ d prints.
    let printed =
    prints _ _ _
    (record { shown = _; shows = refl; left = _; met = c.print-k.ensures; leaves = refl }) in
    lent (search rules) c.min-from.ensures printed c.saturating_add.ensures
