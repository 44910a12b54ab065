use Prim.Native.Nat.{◌≤◌}
use borrow.Author.Rules.{rules}
use lib.ListN.{length as size}
use mathlib.Core.Path.{refl, sym, ◌∙◌}
use native.Mathlib.Omega.{arith}
use Rattle.file_blocks.proofs.Accepted.{few_instrs}
use Rattle.file_blocks.proofs.IsBlock.{missing, instrs_counted}
use Rattle.emit_reasons.proofs.Putting.{putting_as}
use Rattle.call_reasons.proofs.Rest.{block_is, record_count_lem}
use Rattle.call_reasons.proofs.Rest.{next_starts, lines_record}
use Rattle.call_reasons.proofs.Written.{putting_start, lines_next, put_end}
use Rattle.call_reasons.proofs.lines.put_lines.Goals as goal

pub loop-b-init : goal.loop-b-init
loop-b-init c =
    let stands = c.requires.0 in
    let small : size c.args.text.now ≤ 18446744073709551615 = search rules in (
      refl,
      omega arith,
      omega (arith, stands.inside, c.requires.1),
      stands.starts,
      λ h. omega (arith, stands.has),
      putting_start stands _ small,
    )

pub returns-in_default : goal.returns-in_default
returns-in_default c =
    absurd
    (omega (
      arith,
      missing _ c.requires.0.accepted _
          (sym c.block_at.ensures ∙ c.in_default.is),
      c.requires.1,
    ))

-- the numbers of instructions are small
pub overflow_add-end : goal.overflow_add-end
overflow_add-end c =
    let inv = c.loop-b.invariant in
    let ok = c.requires.0.accepted in
    let is =
    block_is ok c.block_at.ensures c.in-Some.is inv.3 in
    omega (arith, instrs_counted is, few_instrs _ _ ok)

pub put_block-put-requires : goal.put_block-put-requires
put_block-put-requires c =
    let inv = c.loop-b.invariant in
    let ok = c.requires.0.accepted in
    let is =
    block_is ok c.block_at.ensures c.in-Some.is inv.3 in
    ((_, is), omega (arith, inv.4 (omega arith), record_count_lem is), omega (arith, inv.0, inv.1))

pub shape_of-text-then-put-end : goal.shape_of-text-then-put-end
shape_of-text-then-put-end c =
    c.put_block-put.auto.text
    ∙ c.loop-b.invariant.0

-- a line of the block does not fit
pub returns-then-put-end : goal.returns-then-put-end
returns-then-put-end c =
    let inv = c.loop-b.invariant in
    let ok = c.requires.0.accepted in
    let is =
    block_is ok c.block_at.ensures c.in-Some.is inv.3 in
    (c.put_block-put.ensures.lines _ _ _
    (putting_as
    (lines_record is c.loop-b.skip (omega (arith, inv.4 (omega arith), record_count_lem is)))
    inv.5)).over c.if-put-end.true _

pub loop-b-preserved : goal.loop-b-preserved
loop-b-preserved c =
    let inv = c.loop-b.invariant in
    let ok = c.requires.0.accepted in
    let is =
    block_is ok c.block_at.ensures c.in-Some.is inv.3 in
    let next = next_starts is in (
      c.put_block-put.auto.text ∙ inv.0,
      omega (arith, c.put_block-put.ensures.within, inv.0),
      omega arith,
      next,
      λ h. omega arith,
      putting_as (lines_next is)
          ((c.put_block-put.ensures.lines _ _ _
          (putting_as
          (lines_record is c.loop-b.skip (omega (
            arith,
            inv.4
                (omega arith),
            record_count_lem is,
          )))
          inv.5)).on c.if-put-end.false),
    )

-- no block is left
pub returns : goal.returns
returns c =
    let inv = c.loop-b.invariant in
    let f = c.args.file.now in
    put_end f c.requires.0.accepted c.loop-b.b (omega (arith, inv.2, c.requires.1)) _ _ _
    inv.3 inv.5
