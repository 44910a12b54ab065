-- The unit is written where every unit fits; else it is measured, and written if it fits.
-- Assumes nothing.
use mathlib.Core.Path.{sym, ap, ◌∙◌}
use native.Mathlib.Omega.{arith}
use lib.ListN.{length}
use Rattle.lower_units.specs.Units.{text_of}
use Rattle.emit_units.proofs.Cuts.{same_tree, unit_bytes}
use Rattle.emit_units.proofs.Fitted.{unit_over, unit_bounded, unit_fits}
use Rattle.emit_units.proofs.fronts.fit_unit.Goals as goal

pub returns-then-bound-part : goal.returns-then-bound-part
returns-then-bound-part c = record {
  within = c.put_unit.ensures.within;
  unit = λ limit k ready s bounds.
      let m = c.put_unit.ensures.unit limit s.group ready s.within s.here in
      unit_fits ready.accepted s m
      (omega (arith, unit_bounded ready.accepted s m.first bounds));
}

pub returns-then-part-e : goal.returns-then-part-e
returns-then-part-e c = record {
  within = c.measure_unit-e.ensures.within;
  unit = λ limit k ready s bounds.
      unit_over _ (c.measure_unit-e.ensures.unit limit s.group ready s.within s.here) (omega arith);
}

pub returns : goal.returns
returns c = record {
  within = c.put_unit-2.ensures.within;
  unit = λ limit k ready s bounds.
      let u = c.measure_unit-e.ensures.unit limit s.group ready s.within s.here in
      let m = c.put_unit-2.ensures.unit limit s.group ready s.within s.here in
      let same = unit_bytes s m.first ready.accepted
      ∙ ap (λ t. length (text_of t)) (same_tree m.first u)
      ∙ sym (unit_bytes s u ready.accepted) in
      unit_fits ready.accepted s m (omega (arith, same));
}
