use Rattle.std.proofs.Common.{◌≡◌, sym, refl, ap, ◌∙◌, arith}
use mathlib.Core.Option.{some}
use Rattle.file_records.specs.BlockRecord.{count_sum}
use Rattle.file_blocks.specs.Read.{IsBlock}
use Rattle.file_blocks.proofs.IsBlock.{missing, sum_next}
use Rattle.plan_exits.specs.Found.{found_keys}
use Rattle.plan_exits.proofs.Closing.{no_exits, exits_here}
use Rattle.plan_exits.proofs.exits.block_exits.Goals as goal

pub loop-k-init : goal.loop-k-init
unfolding count_sum
loop-k-init c = (omega arith, λ _. refl)

pub returns-in_err-earlier : goal.returns-in_err-earlier
returns-in_err-earlier c ok =
    ap found_keys c.from_residual.ensures ∙ no_exits _ ok _
    (omega (
      arith,
      missing _ ok _
          (sym c.block_at.ensures ∙ c.in_err-earlier.was),
    ))

pub loop-k-preserved : goal.loop-k-preserved
loop-k-preserved c =
    let found = sym c.block_at.ensures ∙ c.in_ok-earlier.was in (
      omega arith,
      λ ok. c.wrapping_add_usize-first.ensures.value
          ∙ sum_next (record { accepted = ok; found = found; starts = c.loop-k.invariant.1 ok }),
    )

pub returns-in_err-block : goal.returns-in_err-block
returns-in_err-block c ok =
    ap found_keys c.from_residual-in_err-block.ensures ∙ no_exits _ ok _
    (missing _ ok _ (sym c.block_at-2.ensures ∙ c.in_err-block.was))

pub returns : goal.returns
returns c ok =
    let all : c.loop-k.k ≡ c.args.i = omega arith in
    let found = sym c.block_at-2.ensures ∙ c.in_ok-block.was in
    let is : IsBlock _ _ _ _ =
    record {
      accepted = ok;
      found = found;
      starts = c.loop-k.invariant.1 ok
          ∙ ap (count_sum _) all;
    } in
    ap some (c.exits_at.ensures _ is) ∙ exits_here is
