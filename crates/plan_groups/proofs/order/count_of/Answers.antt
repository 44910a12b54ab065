-- `count_of` gives a block's instruction count: of an accepted file every block is found.
use Rattle.file_blocks.specs.Read.{record_at}
use Rattle.file_blocks.specs.declared.read.BlockRecord.{BlockRecord}
use Rattle.file_blocks.proofs.IsBlock.{missing, found_record}
use mathlib.Core.Path.{sym, ◌∙◌, ap}
use native.Mathlib.Omega.{arith}
use borrow.Author.Rules.{rules}
use Rattle.plan_groups.proofs.order.count_of.Goals as goal

pub returns-in_default : goal.returns-in_default
returns-in_default c =
    absurd (omega (
      arith,
      c.requires.1,
      missing _ c.requires.0 _ (sym c.block_at.ensures ∙ c.in_default.is),
    ))

pub returns : goal.returns
unfolding record_at
returns c = record {
  small = search rules;
  count = ap (λ (r : BlockRecord). r.count)
      (found_record _ _ _
      (sym c.block_at.ensures
      ∙ c.in-Some.is));
}
