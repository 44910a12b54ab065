use mathlib.Core.Path.{sym, ◌∙◌}
use native.Mathlib.Omega.{arith}
use Rattle.file_blocks.proofs.ReadInstrs.{not_missing}
use Rattle.file_blocks.proofs.ReadNext.{here_read}
use Rattle.emit_reasons.proofs.Reading.{coming_none, coming_ends, coming_on}
use Rattle.emit_reasons.proofs.Reading.{coming_there}
use Rattle.emit_reasons.proofs.walk.reaches.Goals as goal

pub loop-j-init : goal.loop-j-init
loop-j-init c = coming_none _ _ _

pub returns-in_default : goal.returns-in_default
returns-in_default c =
    absurd
    (not_missing c.requires.0.1 _ _ (omega (arith, c.requires.1)) c.instr_of.ensures
    c.in_default.is)

pub ends_at-requires : goal.ends_at-requires
ends_at-requires c =
    (c.requires.0, omega (arith, c.requires.1))

pub returns-then-ends_at : goal.returns-then-ends_at
returns-then-ends_at c =
    coming_ends c.loop-j.invariant _
    (here_read c.requires.0.1 _ (omega (arith, c.requires.1)) _ _ c.instr_of.ensures
    c.in-Some.is) (omega arith) (sym c.ends_at.ensures ∙ c.if-ends_at.true)

pub loop-j-preserved : goal.loop-j-preserved
loop-j-preserved c =
    coming_on c.loop-j.invariant _
    (here_read c.requires.0.1 _ (omega (arith, c.requires.1)) _ _
    c.instr_of.ensures c.in-Some.is) (omega arith)
    (sym c.ends_at.ensures ∙ c.if-ends_at.false)

pub returns : goal.returns
returns c = coming_there c.loop-j.invariant (omega arith)
