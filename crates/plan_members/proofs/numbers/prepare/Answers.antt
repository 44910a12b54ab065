-- `prepare` takes the steps one after the other.
-- Assumes nothing.
use mathlib.Core.Path.{◌∙◌}
use native.Mathlib.Omega.{arith}
use Rattle.plan_members.proofs.Preparing.{prepared}
use Rattle.plan_members.proofs.numbers.prepare.Goals as goal

pub group_blocks-requires : goal.group_blocks-requires
group_blocks-requires c = c.requires

pub first_instrs-requires : goal.first_instrs-requires
first_instrs-requires c = (
  (
    omega (arith, c.group_blocks.ensures.same),
    c.requires.0.1,
    c.requires.0.2,
  ),
  c.requires.1,
)

pub shape_of-work : goal.shape_of-work
shape_of-work c =
    c.first_instrs.ensures.same ∙ c.group_blocks.ensures.same

pub returns : goal.returns
returns c =
    prepared
    c.requires.1
    c.requires.0.2
    c.requires.0.0
    c.group_blocks.ensures
    c.first_instrs.ensures
