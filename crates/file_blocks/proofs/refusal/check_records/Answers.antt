use Rattle.file_blocks.specs.Checked.{passed}
use Rattle.file_records.proofs.Sections.{sections}
use Rattle.file_blocks.proofs.Passes as passes
use Rattle.std.proofs.Common.{sym, ap, ◌∙◌, arith}
use Rattle.file_blocks.proofs.refusal.check_records.Goals as goal

pub loop-i-init : goal.loop-i-init
loop-i-init c = (omega arith, passes.instrs_none _ _ c.trailer_word-instrs.ensures)

pub overflow_add-start : goal.overflow_add-start
overflow_add-start c =
    omega (arith, sections _ c.requires.0)

pub instr_right-requires : goal.instr_right-requires
instr_right-requires c =
    (omega (arith, sections _ c.requires.0), c.requires.1)

pub returns-then-not-instr_right : goal.returns-then-not-instr_right
returns-then-not-instr_right c = ap passed
    (sym
    (c.loop-i.invariant.1
    ∙ passes.instr-broken _ _ _ _
    c.section_start-start.ensures
    c.loop-i-test.true
    (sym c.instr_right.ensures ∙ c.if-not-instr_right.true)))

pub loop-i-preserved : goal.loop-i-preserved
loop-i-preserved c = (
  omega arith,
  c.loop-i.invariant.1
      ∙ passes.instr-kept _ _ _ _
      c.section_start-start.ensures
      c.loop-i-test.true
      (sym c.instr_right.ensures ∙ c.if-not-instr_right.false),
)

pub returns : goal.returns
returns c =
    ap passed
    (sym (c.loop-i.invariant.1
    ∙ passes.instrs_all _ _ c.trailer_word-instrs.ensures _ (omega arith)))
