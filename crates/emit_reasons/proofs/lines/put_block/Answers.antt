-- `put_block` writes lines only where the block has its code, and the walk comes to the
-- instruction.
-- Assumes nothing.
use mathlib.Core.Path.{sym, ◌∙◌}
use native.Mathlib.Omega.{arith}
use lib.ListN.{drop}
use Rattle.file_blocks.specs.Read.{instrs_of}
use Rattle.file_blocks.proofs.Accepted.{few_instrs}
use Rattle.file_blocks.proofs.IsBlock.{instrs_counted}
use Rattle.emit_reasons.proofs.Putting.{putting_as, progress_on, rest_nothing, rest_same}
use Rattle.emit_reasons.proofs.Reading.{from_absent, from_unreached, from_reached}
use Rattle.emit_reasons.proofs.lines.put_block.Goals as goal

-- the numbers of instructions are small
pub overflow_add-end : goal.overflow_add-end
overflow_add-end c =
    let is = c.requires.0.1 in
    omega (arith, instrs_counted is, few_instrs _ _ is.accepted)

pub returns-then-not-has_code : goal.returns-then-not-has_code
returns-then-not-has_code c =
    let a = c.args in record {
      within = c.requires.2;
      lines = λ whole all after put.
          progress_on
          (putting_as
          (rest_nothing (drop a.index (instrs_of a.file.now a.block a.first))
          (from_absent a.file.now a.block a.first a.index
          (sym c.has_code.ensures ∙ c.if-not-has_code.true)) _ after) put);
    }

pub reaches-requires : goal.reaches-requires
reaches-requires c =
    (c.requires.0, c.requires.1)

pub returns-then-not-reaches : goal.returns-then-not-reaches
returns-then-not-reaches c =
    let a = c.args in record {
      within = c.requires.2;
      lines = λ whole all after put.
          progress_on
          (putting_as
          (rest_nothing (drop a.index (instrs_of a.file.now a.block a.first))
          (from_unreached a.file.now a.block a.first a.index
          (sym c.has_code.ensures ∙ c.if-not-has_code.false)
          c.region_of-region.ensures (sym c.reaches.ensures ∙ c.if-not-reaches.true)) _
          after) put);
    }

pub put_rest-requires : goal.put_rest-requires
put_rest-requires c =
    c.requires

pub returns : goal.returns
returns c =
    let a = c.args in record {
      within = c.put_rest.ensures.within;
      lines = λ whole all after put.
          c.put_rest.ensures.lines whole all after
          (putting_as
          (rest_same
          (from_reached a.file.now a.block a.first a.index
          (sym c.has_code.ensures ∙ c.if-not-has_code.false)
          c.region_of-region.ensures
          (sym c.reaches.ensures ∙ c.if-not-reaches.false)) _
          after) put);
    }
