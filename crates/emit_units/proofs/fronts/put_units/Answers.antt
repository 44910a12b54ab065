use borrow.Author.Rules.{rules}
use lib.ListN.{length}
use mathlib.Core.Path.{◌≡◌, sym}
use native.Mathlib.Omega.{arith}
use Rattle.emit_units.proofs.Fitted.{putting_none, putting_full, putting_over}
use Rattle.emit_units.proofs.Fitted.{putting_more, putting_last}
use Rattle.emit_units.proofs.fronts.put_units.Goals as goal

pub loop-count-init : goal.loop-count-init
loop-count-init c =
    (omega arith, omega arith, λ limit k ready s. putting_none _ _ s)

pub returns-then-text-length : goal.returns-then-text-length
returns-then-text-length c = λ limit k ready s.
    let inv = c.loop-count.invariant in
    let put = inv.2 limit k ready s in
    putting_over ready.accepted put c.loop-count.auto.text
    (c.fit_unit-e.ensures.unit limit _ ready put.go.starts
    (c.unit_bound-bound.ensures limit ready)) (omega arith)

pub returns-then-e : goal.returns-then-e
returns-then-e c = λ limit k ready s.
    let inv = c.loop-count.invariant in
    let put = inv.2 limit k ready s in
    putting_last ready.accepted put c.loop-count.auto.text
    (c.fit_unit-e.ensures.unit limit _ ready put.go.starts
    (c.unit_bound-bound.ensures limit ready)) (omega arith) inv.1 (omega arith)
    c.loop-count.auto.lengths c.if-e.true

pub loop-count-preserved : goal.loop-count-preserved
loop-count-preserved c =
    let inv = c.loop-count.invariant in (
      c.fit_unit-e.ensures.within,
      search (rules, inv),
      λ limit k ready s.
          let put = inv.2 limit k ready s in
          putting_more ready.accepted put c.loop-count.auto.text
          (c.fit_unit-e.ensures.unit limit _ ready put.go.starts
          (c.unit_bound-bound.ensures limit ready)) (omega arith) inv.1
          (omega arith) c.loop-count.auto.lengths c.if-e.false,
    )

pub returns : goal.returns
returns c = λ limit k ready s.
    let all : c.loop-count.count ≡ length c.loop-count.lengths = omega arith in
    rw (sym all) (putting_full ready.accepted (c.loop-count.invariant.2 limit k ready s) (omega arith))
