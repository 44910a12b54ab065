use Rattle.std.proofs.Common.{ℕ, ◌+◌, sym, ap, ◌∙◌, ap₂, arith}
use Rattle.file_blocks.specs.Checked.{passed}
use Rattle.file_records.proofs.Sections.{sections}
use Rattle.file_blocks.proofs.Passes as passes
use Rattle.file_blocks.proofs.refusal.check_blocks.Goals as goal

pub loop-i-init : goal.loop-i-init
loop-i-init c = passes.blocks_none _ _ c.trailer_word-blocks.ensures

pub overflow_add-at : goal.overflow_add-at
overflow_add-at c = omega (arith, sections _ c.requires)

pub block_right-requires : goal.block_right-requires
block_right-requires c =
    omega (arith, sections _ c.requires)

pub returns-then-not-block_right : goal.returns-then-not-block_right
returns-then-not-block_right c = ap passed
    (sym
    (c.loop-i.invariant.kept
    ∙ passes.block_broken _ _ _ _ _
    c.section_start-start.ensures
    c.loop-i-test.true
    (sym c.block_right.ensures ∙ c.if-not-block_right.true)))

pub key-k-requires : goal.key-k-requires
key-k-requires c =
    omega (arith, sections _ c.requires)

pub returns-then-k-least : goal.returns-then-k-least
returns-then-k-least c =
    ap passed
    (sym
    (c.loop-i.invariant.kept
    ∙ passes.order_broken _ _ _ _ _
    c.section_start-start.ensures
    c.loop-i-test.true
    (sym c.block_right.ensures
    ∙ c.if-not-block_right.false) (omega arith)))

pub count-requires : goal.count-requires
count-requires c =
    omega (
      arith,
      sections _
          c.requires,
    )

pub loop-i-preserved : goal.loop-i-preserved
loop-i-preserved c =
    let right = sym c.block_right.ensures
    ∙ c.if-not-block_right.false in
    record {
      inside = omega arith;
      key = ap (λ (k : ℕ). k + 1) c.key-k.ensures.key
          ∙ passes.least_next _ _ _ c.section_start-start.ensures;
      counts =
          ap₂ (λ (s n : ℕ). s + n)
          c.loop-i.invariant.counts c.count.ensures
          ∙ passes.sum_next _ _ _ c.section_start-start.ensures;
      small = omega (arith, passes.count_small _ _ right);
      kept = c.loop-i.invariant.kept
          ∙ passes.block_kept _ _ _ _ _ c.section_start-start.ensures
          c.loop-i-test.true right (omega arith);
    }

pub returns-then-sum-trailer_word : goal.returns-then-sum-trailer_word
returns-then-sum-trailer_word c = ap passed
    (sym
    (c.loop-i.invariant.kept
    ∙ passes.sum_right _ _ c.trailer_word-blocks.ensures _
    (omega arith)
    (sym c.loop-i.invariant.counts ∙ c.if-sum-trailer_word.true
    ∙ c.trailer_word.ensures)))

pub returns-else-sum-trailer_word : goal.returns-else-sum-trailer_word
returns-else-sum-trailer_word c = ap passed
    (sym
    (c.loop-i.invariant.kept
    ∙ passes.sum_wrong _ _ c.trailer_word-blocks.ensures _
    (omega arith)
    (λ e. c.if-sum-trailer_word.false
    (c.loop-i.invariant.counts ∙ e
    ∙ sym c.trailer_word.ensures))))
