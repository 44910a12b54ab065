use native.Mathlib.Omega.{arith}
use Rattle.emit_units.proofs.Bounded.{longest_none, longest_more, longest_all}
use Rattle.emit_units.proofs.bounds.unit_bound.Goals as goal

pub loop-p-init : goal.loop-p-init
loop-p-init c = (omega arith, omega arith, λ limit ready. longest_none _ limit)

pub loop-p-preserved-then-most-bound : goal.loop-p-preserved-then-most-bound
loop-p-preserved-then-most-bound c =
    let f = c.args.file.now in
    let inv = c.loop-p.invariant in (
      c.group_end.ensures.inside.1,
      omega (arith, c.group_bound-bound.ensures.small),
      λ limit ready.
          let to = inv.2 limit ready in
          let ends = c.group_end.ensures.planned f limit to.group ready to.here in
          longest_more ready to _ _ _ (omega arith) ends
          (c.group_bound-bound.ensures.bound limit to.group
          (record { ready = ready; first = to.here; next = ends })) (omega arith) (omega arith),
    )

pub loop-p-preserved : goal.loop-p-preserved
loop-p-preserved c =
    let f = c.args.file.now in
    let inv = c.loop-p.invariant in (
      c.group_end.ensures.inside.1,
      inv.1,
      λ limit ready.
          let to = inv.2 limit ready in
          let ends = c.group_end.ensures.planned f limit to.group ready to.here in
          longest_more ready to _ _ _ (omega arith) ends
          (c.group_bound-bound.ensures.bound limit to.group
          (record { ready = ready; first = to.here; next = ends })) (omega arith) (omega arith),
    )

pub returns : goal.returns
returns c = λ limit ready.
    longest_all ready (c.loop-p.invariant.2 limit ready) _ _ (omega arith)
    c.sum.ensures
