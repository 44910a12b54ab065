-- `said_at` says something only where the block has its code, and the walk comes to the
-- instruction.
-- Assumes nothing.
use mathlib.Core.Path.{sym, ◌∙◌}
use native.Mathlib.Omega.{arith}
use lib.ListN.{drop}
use Rattle.file_blocks.specs.Read.{instrs_of}
use Rattle.emit_reasons.proofs.Reading.{from_absent, from_unreached, from_reached}
use Rattle.emit_reasons.proofs.Reading.{at_nothing, at_said}
use Rattle.emit_reasons.proofs.walk.said_at.Goals as goal

pub returns-then-not-has_code : goal.returns-then-not-has_code
returns-then-not-has_code c =
    let a = c.args in
    at_nothing _ a.index (drop a.index (instrs_of a.file.now a.block a.first))
    (from_absent a.file.now a.block a.first a.index
    (sym c.has_code.ensures ∙ c.if-not-has_code.true))

pub reaches-requires : goal.reaches-requires
reaches-requires c =
    (c.requires.0, omega (arith, c.requires.1))

pub returns-then-not-reaches : goal.returns-then-not-reaches
returns-then-not-reaches c =
    let a = c.args in
    at_nothing _ a.index (drop a.index (instrs_of a.file.now a.block a.first))
    (from_unreached a.file.now a.block a.first a.index
    (sym c.has_code.ensures ∙ c.if-not-has_code.false)
    c.region_of-region.ensures (sym c.reaches.ensures ∙ c.if-not-reaches.true))

pub said_here-requires : goal.said_here-requires
said_here-requires c = c.requires

pub returns : goal.returns
returns c =
    let a = c.args in
    c.said_here.ensures
    ∙ at_said _ a.index _ _
    (from_reached a.file.now a.block a.first a.index
    (sym c.has_code.ensures ∙ c.if-not-has_code.false)
    c.region_of-region.ensures (sym c.reaches.ensures ∙ c.if-not-reaches.false))
