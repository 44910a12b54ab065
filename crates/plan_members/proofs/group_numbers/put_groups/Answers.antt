use Prim.Native.Nat.{ℕ}
use mathlib.Core.Path.{subst}
use native.Mathlib.Omega.{arith}
use Rattle.plan_members.specs.Numbers.{GroupsFrom}
use Rattle.plan_members.proofs.group_numbers.put_groups.Goals as goal

pub loop-p-init : goal.loop-p-init
loop-p-init c = (
  omega arith,
  omega (arith, c.no_groups.ensures.same),
  omega arith,
  λ w from.
      from,
)

pub put_group-requires : goal.put_group-requires
put_group-requires c = (omega arith, omega arith, omega arith)

pub loop-p-preserved : goal.loop-p-preserved
loop-p-preserved c =
    let inv = c.loop-p.invariant in (
      omega arith,
      omega arith,
      omega arith,
      λ w from. c.put_group.ensures w
          (subst (λ (m : ℕ). GroupsFrom
          c.args.n m w c.loop-p.work) (omega arith)
          (inv.3 w from)),
    )

pub shape_of-work : goal.shape_of-work
shape_of-work c =
    (c.loop-p.invariant.3 _ c.no_groups.ensures).same

pub returns : goal.returns
returns c =
    subst (λ (m : ℕ). GroupsFrom
    c.args.n m
    c.args.work.now
    c.loop-p.work) (omega arith)
    (c.loop-p.invariant.3 _ c.no_groups.ensures)
