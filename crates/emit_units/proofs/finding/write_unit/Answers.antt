-- The unit that is written has the tree of the extent given: both are the first unit of one group.
-- Assumes nothing.
use mathlib.Core.Path.{sym, subst, ◌∙◌}
use mathlib.Core.List.{List}
use Rattle.base_text.specs.Wrote.{Wrote}
use Rattle.c_tree.specs.Stmt.{Top}
use Rattle.c_tree.specs.Print.{unit_text}
use Rattle.emit_units.proofs.Cuts.{same_tree}
use Rattle.emit_units.proofs.Written.{made_text}
use Rattle.emit_units.proofs.finding.write_unit.Goals as goal

pub returns : goal.returns
returns c = λ limit k ready is.
    let a = c.args in
    let m = c.put_unit-unit.ensures.unit limit is.at.group ready is.at.within is.at.here in
    subst (λ (ts : List Top). Wrote a.out.now 0 (unit_text ts) _ _)
    (same_tree m.first is.first ∙ sym is.tree) (made_text m)
