use lib.ListN.{length}
use mathlib.Core.Bool.{true}
use mathlib.Core.Path.{◌≡◌, sym}
use native.Mathlib.Omega.{arith}
use Rattle.base_fitting.proofs.Laws.{fit_full, fit_all, total_none}
use Rattle.emit_units.proofs.Fitted.{going_none, going_more, list_more, lengths_done}
use Rattle.emit_units.proofs.fronts.put_lengths.Goals as goal

pub loop-count-init : goal.loop-count-init
loop-count-init c = (omega arith, λ limit k ready s. going_none _ _ _ s)

pub returns-then-e : goal.returns-then-e
unfolding list_more
returns-then-e c = λ limit k ready s.
    let inv = c.loop-count.invariant in
    let go = inv.1 limit k ready s in
    let l =
    list_more ready.accepted go
    (c.measure_unit-e.ensures.unit limit _ ready go.starts.within go.starts.here)
    (omega (arith, total_none go.list.made)) (omega arith) c.loop-count.auto.lengths true c.if-e.true in
    lengths_done l (fit_all _ _ _ _ l.so)

pub loop-count-preserved : goal.loop-count-preserved
loop-count-preserved c =
    let inv = c.loop-count.invariant in (
      c.measure_unit-e.ensures.within,
      λ limit k ready s.
          let go = inv.1 limit k ready s in
          going_more ready.accepted go
          (c.measure_unit-e.ensures.unit limit _ ready go.starts.within
          go.starts.here)
          (omega (arith, total_none go.list.made)) (omega arith) c.loop-count.auto.lengths c.if-e.false,
    )

pub returns : goal.returns
returns c = λ limit k ready s.
    let all : c.loop-count.count ≡ length c.loop-count.lengths = omega arith in
    let go = c.loop-count.invariant.1 limit k ready s in
    rw (sym all)
    (lengths_done go.list
    (fit_full _ _ _ _ go.list.so (omega (arith, go.list.counted))))
