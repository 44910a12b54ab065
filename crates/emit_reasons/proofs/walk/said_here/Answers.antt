-- `said_here` reads an instruction, and says nothing where it makes a pair.
-- Assumes nothing.
use mathlib.Core.Path.{sym, ◌∙◌}
use Rattle.file_blocks.proofs.ReadInstrs.{not_missing}
use Rattle.file_blocks.proofs.ReadNext.{here_read}
use Rattle.emit_reasons.proofs.Reading.{first_pair, first_alone}
use Rattle.emit_reasons.proofs.walk.said_here.Goals as goal

pub returns-in_default : goal.returns-in_default
returns-in_default c =
    absurd
    (not_missing c.requires.0.1 _ _ c.requires.1 c.instr_of.ensures
    c.in_default.is)

pub pairs_at-requires : goal.pairs_at-requires
pairs_at-requires c = c.requires

pub returns-then-pairs_at : goal.returns-then-pairs_at
returns-then-pairs_at c =
    first_pair c.args.region _ _ _
    (here_read c.requires.0.1 _ c.requires.1 _ _ c.instr_of.ensures
    c.in-Some.is) (sym c.pairs_at.ensures ∙ c.if-pairs_at.true)

pub returns : goal.returns
returns c =
    c.said_of.ensures
    ∙ first_alone c.args.region _ _ _
    (here_read c.requires.0.1 _ c.requires.1 _ _ c.instr_of.ensures
    c.in-Some.is) (sym c.pairs_at.ensures ∙ c.if-pairs_at.false)
