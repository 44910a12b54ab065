use Rattle.plan_groups.proofs.Lending as lending
use Rattle.plan_groups.specs.Groups.{AllRooted}
use lib.ListN.{length}
use Prim.Native.Nat.{ℕ, ◌*◌, ◌≤◌}
use mathlib.Core.Path.{◌≡◌, subst}
use native.Mathlib.Omega.{arith}
use Rattle.plan_groups.proofs.groups.put_roots.Goals as goal

pub loop-i-init : goal.loop-i-init
loop-i-init c = (
  omega arith,
  c.requires.n_in_bounds.0,
  c.requires.n_in_bounds.1,
  c.requires.forest,
  lending.rooted_none
      _ _,
)

pub put_root-requires : goal.put_root-requires
put_root-requires c = let inv = c.loop-i.invariant in
    let room : 4 * c.args.n
    ≤ length c.loop-i.work = omega (arith, inv.4.same) in
    record { n_in_bounds = (room, inv.2, c.loop-i-test.true); forest = lending.rooted_forest _ _ _ _ inv.4 inv.3 }

pub loop-i-preserved : goal.loop-i-preserved
loop-i-preserved c =
    let inv = c.loop-i.invariant in (
      omega arith,
      inv.1,
      inv.2,
      inv.3,
      lending.rooted_more _ _ _ _ _ inv.1
          c.loop-i-test.true inv.4
          c.put_root.ensures,
    )

pub shape_of-work : goal.shape_of-work
shape_of-work c = c.loop-i.invariant.4.same

pub returns : goal.returns
returns c = let done : c.loop-i.i ≡ c.args.n = omega arith in
    subst (λ (m : ℕ). AllRooted c.args.n m
    c.args.work.now c.loop-i.work) done
    c.loop-i.invariant.4
