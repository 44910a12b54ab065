-- A block of an accepted file is found, so the answer 0 is for other files.
-- Assumes nothing.
use borrow.Author.Rules.{rules}
use mathlib.Core.Path.{sym, ◌∙◌}
use native.Mathlib.Omega.{arith}
use Rattle.file_blocks.proofs.IsBlock.{missing}
use Rattle.emit_units.proofs.Bounded.{body_counts}
use Rattle.emit_units.proofs.bounds.block_bound.Goals as goal

pub returns-in_default : goal.returns-in_default
returns-in_default c = record {
  small = search rules;
  bound = λ ok inside. absurd
      (omega (
        arith,
        missing _ ok _ (sym c.block_at.ensures ∙ c.in_default.is),
      ));
}

pub returns : goal.returns
returns c = record {
  small = search rules;
  bound = λ ok inside.
      omega (
        arith,
        body_counts _ _ _ ok inside
            (sym c.block_at.ensures ∙ c.in-Some.is),
      );
}
