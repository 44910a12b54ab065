use lib.ListN.{get_or, set, length-set}
use Prim.Native.Nat.{◌+◌, ◌*◌, ℕ}
use Rattle.call_plan.proofs.Interleaved as rows
use mathlib.Core.List.{List}
use mathlib.Core.Path.{◌≡◌, refl, ◌∙◌, ap}
use native.Mathlib.Omega.{arith}
use Rattle.call_plan.proofs.rows.put_rows.Goals as goal

pub loop-p-init : goal.loop-p-init
loop-p-init c =
    (omega arith, refl, rows.rows_none c.args.work.now c.args.plan.now c.args.n)

pub bounds-plan-p-in-loop-p : goal.bounds-plan-p-in-loop-p
bounds-plan-p-in-loop-p c = simp length-set (omega arith)

pub loop-p-preserved : goal.loop-p-preserved
loop-p-preserved c = let inv = c.loop-p.invariant in
    let p = c.loop-p.p in
    let w = c.args.work.now in
    let n = c.args.n in (
      omega arith,
      simp length-set inv.1,
      ap (λ (l : List ℕ). set (set l (2 * p) (get_or w (2 * n + p) 0)) (2 * p + 1) (get_or w p 0))
          inv.2
          ∙ rows.rows_more _ _ _ c.requires.n_in_bounds
          c.requires.n_in_bounds_2 _ c.loop-p-test.true,
    )

pub shape_of-plan : goal.shape_of-plan
shape_of-plan c = c.loop-p.invariant.1

pub returns : goal.returns
returns c = let done : c.loop-p.p ≡ c.args.n = omega arith in
    c.loop-p.invariant.2
    ∙ ap (rows.rows_to c.args.work.now
    c.args.plan.now c.args.n) done
