use Prim.Native.Nat.{ℕ}
use mathlib.Core.Path.{◌≡◌, subst}
use native.Mathlib.Omega.{arith}
use Rattle.emit_units.specs.Units.{StartsAt, StartWithin, IsFoundStart}
use Rattle.emit_units.proofs.Cuts.{starts_first, starts_next, starts_past}
use Rattle.emit_units.proofs.finding.find_start.Goals as goal

pub loop-init : goal.loop-init
loop-init c = (omega arith, λ limit ready. starts_first _ limit _)

pub returns-then-unit : goal.returns-then-unit
unfolding IsFoundStart StartWithin
returns-then-unit c = record {
  within = tt;
  start = λ limit ready.
      let s = c.loop.invariant.1 limit ready in
      starts_past s
      (c.measure_unit-unit.ensures.unit limit s.group ready s.within s.here)
      c.if-unit.true c.args.k (omega arith);
}

pub loop-preserved : goal.loop-preserved
loop-preserved c =
    let inv = c.loop.invariant in (
      c.measure_unit-unit.ensures.within,
      λ limit ready.
          let s = inv.1 limit ready in
          starts_next s
          (c.measure_unit-unit.ensures.unit limit s.group ready s.within s.here)
          c.if-unit.false,
    )

pub returns : goal.returns
unfolding IsFoundStart StartWithin
returns c =
    let inv = c.loop.invariant in
    let a = c.args in
    let all : c.loop.counter ≡ a.k = omega arith in record {
      within = inv.0;
      start = λ limit ready.
          subst (λ (j : ℕ). StartsAt a.file.now limit a.max j c.loop.p) all
          (inv.1 limit ready);
    }
