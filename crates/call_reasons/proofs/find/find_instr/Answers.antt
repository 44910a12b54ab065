use mathlib.Core.Path.{◌≡◌, refl, sym, ap, ◌∙◌}
use native.Mathlib.Omega.{arith}
use Rattle.file_records.specs.BlockRecord.{count_sum}
use Rattle.file_records.specs.Trailer.{block_count}
use Rattle.file_blocks.proofs.Accepted.{few_instrs}
use Rattle.file_blocks.proofs.IsBlock.{missing, instrs_counted}
use Rattle.call_reasons.specs.Steps.{IsFoundPlace}
use Rattle.call_reasons.proofs.Rest.{block_is, record_count_lem, next_starts}
use Rattle.call_reasons.proofs.Rest.{total_is}
use Rattle.call_reasons.proofs.find.find_instr.Goals as goal

pub loop-i-init : goal.loop-i-init
unfolding count_sum
loop-i-init c = (omega arith, refl, omega arith)

pub returns-in_default : goal.returns-in_default
returns-in_default c =
    absurd
    (omega (
      arith,
      missing _ c.requires.0 _ (sym c.block_at.ensures ∙ c.in_default.is),
      c.requires.1,
    ))

-- the numbers of instructions are small
pub overflow_add-next : goal.overflow_add-next
overflow_add-next c =
    let is =
    block_is c.requires.0 c.block_at.ensures c.in-Some.is
    c.loop-i.invariant.1 in
    omega (arith, instrs_counted is, few_instrs _ _ c.requires.0)

pub returns-then-k-next : goal.returns-then-k-next
unfolding IsFoundPlace
returns-then-k-next c =
    let is =
    block_is c.requires.0 c.block_at.ensures c.in-Some.is
    c.loop-i.invariant.1 in
    record {
      inside = omega (arith, c.requires.1);
      starts = c.loop-i.invariant.1;
      from = c.loop-i.invariant.2;
      before = omega (arith, record_count_lem is);
    }

pub loop-i-preserved : goal.loop-i-preserved
loop-i-preserved c =
    let is =
    block_is c.requires.0 c.block_at.ensures c.in-Some.is
    c.loop-i.invariant.1 in
    (omega arith, next_starts is, omega arith)

pub returns : goal.returns
unfolding IsFoundPlace
returns c =
    let all : c.loop-i.i ≡ block_count c.args.file.now =
    omega (arith, c.loop-i.invariant.0, c.requires.1) in
    omega (
      arith,
      total_is c.args.file.now c.requires.0,
      c.loop-i.invariant.1,
      c.loop-i.invariant.2,
      ap (count_sum c.args.file.now) all,
    )
