-- `next_of` reads the instruction after a ThumbBlHigh. Of an accepted file each instruction is
-- found. Assumes nothing.
use Rattle.std.proofs.Common.{suc, drop, sym, ◌∙◌, arith}
use Rattle.file_blocks.specs.Read.{instrs_of}
use Rattle.file_blocks.proofs.ReadInstrs.{not_missing}
use Rattle.file_blocks.proofs.ReadNext.{next_last, next_read}
use Rattle.file_blocks.proofs.next.next_of.Goals as goal

pub returns-then-not-begins_bl : goal.returns-then-not-begins_bl
returns-then-not-begins_bl c =
    λ i is. sym
    (c.begins_bl.ensures (c.if-not-begins_bl.true)
    (drop (suc c.args.j)
    (instrs_of c.args.file.now c.args.block
    c.args.first)))

pub returns-then-j-block : goal.returns-then-j-block
returns-then-j-block c =
    λ i is. next_last is _ c.requires _ c.if-j-block.true

pub returns-in_err-y : goal.returns-in_err-y
returns-in_err-y c =
    λ i is. absurd
    (not_missing is _ _
    (omega (
      arith,
      c.requires,
      c.if-j-block.false,
    )) c.instr_of.ensures c.in_err-y.was)

pub returns : goal.returns
returns c = λ i is. c.fused_next.ensures
    ∙ next_read is _
    c.requires _ _ _
    c.if-j-block.false
    c.instr_of.ensures c.in_ok-y.was
