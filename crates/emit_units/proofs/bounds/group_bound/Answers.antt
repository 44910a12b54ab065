use Prim.Native.Nat.{ℕ}
use mathlib.Core.Path.{subst}
use native.Mathlib.Omega.{arith}
use Rattle.emit_units.specs.Bounds.{IsBlockBound}
use Rattle.emit_units.proofs.Bounded.{bound_none, bound_more, bound_all, rows_all}
use Rattle.emit_units.proofs.bounds.group_bound.Goals as goal

pub loop-k-init : goal.loop-k-init
loop-k-init c = (omega arith, λ limit g is. bound_none)

pub loop-k-preserved : goal.loop-k-preserved
loop-k-preserved c =
    let f = c.args.file.now in
    let inv = c.loop-k.invariant in (
      omega (arith, c.block_bound-bound.ensures.small, inv.0),
      λ limit g is.
          bound_more is (inv.1 limit g is) _ (omega arith)
          (subst (λ (i : ℕ). IsBlockBound f i c.block_bound-bound.result)
          (c.row_block.ensures.planned f _ limit g c.loop-k.k is.ready
          (omega (arith, is.first)) (omega (arith, rows_all is)))
          c.block_bound-bound.ensures.bound),
    )

pub returns : goal.returns
returns c =
    let inv = c.loop-k.invariant in record { small = omega (arith, inv.0); bound = λ limit g is. bound_all is (inv.1 limit g is) (omega arith) }
