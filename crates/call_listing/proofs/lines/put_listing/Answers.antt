use Rattle.std.proofs.Common.{◌≡◌, ◌<◌, List, [], get_or, take, sym, refl, ap, ◌∙◌, arith, take_all}
use Rattle.file_blocks.proofs.Accepted.{length_of_lem}
use Rattle.file_records.specs.BlockRecord.{count_sum}
use Rattle.file_blocks.specs.Parse.{Block, block_at, blocks_of}
use Rattle.file_records.specs.Trailer.{block_count, block_start}
use Rattle.file_blocks.proofs.IsBlock.{missing, sum_next, nth_block}
use Rattle.file_blocks.specs.Read.{IsBlock}
use Rattle.plan_groups.specs.Plan.{plan}
use Rattle.base_text.proofs.Laws.{seq, wrote_as}
use Rattle.base_text.specs.Doc.{◌▸◌}
use Rattle.base_text.specs.Flat.{flat}
use Rattle.call_listing.specs.Listing.{lines_from, listing}
use Rattle.call_listing.proofs.Blocks.{lines_next}
use Rattle.call_listing.proofs.lines.put_listing.Invariants.{header}
use Rattle.call_listing.proofs.lines.put_listing.Goals as goal

pub loop-i-init : goal.loop-i-init
unfolding count_sum lines_from
loop-i-init c = (omega arith, refl, refl, λ limit groups o w. wrote_as w refl)

-- every block is found
pub shape_of-out-in_default : goal.shape_of-out-in_default
shape_of-out-in_default c =
    absurd (omega (
      arith,
      missing _ c.requires.accepted _
          (sym c.block_at.ensures ∙ c.in_default.is),
      c.requires.blocks,
    ))

pub returns-in_default : goal.returns-in_default
returns-in_default c =
    absurd (omega (
      arith,
      missing _ c.requires.accepted _
          (sym c.block_at.ensures ∙ c.in_default.is),
      c.requires.blocks,
    ))

pub loop-i-preserved : goal.loop-i-preserved
loop-i-preserved c =
    let f = c.args.file.now in
    let i = c.loop-i.i in
    let inv = c.loop-i.invariant in
    let found = sym c.block_at.ensures ∙ c.in-Some.is in
    let is : IsBlock f i _ c.loop-i.first =
    record { accepted = c.requires.accepted; found = found; starts = inv.1 } in
    let inside : i < block_count f = omega (arith, c.requires.blocks) in
    let block : block_at f (block_start f i) c.loop-i.first
    ≡ get_or (blocks_of f) i (block_at f 0 0) =
    ap (block_at f (block_start f i)) inv.1 ∙ sym (nth_block f i (block_at f 0 0) inside) in (
      omega arith,
      c.wrapping_add_usize-first.ensures.value ∙ sum_next is,
      c.put_block-at.auto.out ∙ inv.2,
      λ limit groups o₀ w. wrote_as (seq (inv.3 limit groups o₀ w) (c.put_block-at.ensures _ is))
          (lines_next header _ (blocks_of f) _ _ _ _
          (omega (arith, inside, length_of_lem _ _ c.requires.accepted)) (groups _ (omega arith)) block),
    )

pub shape_of-out : goal.shape_of-out
shape_of-out c = c.loop-i.invariant.2 ∙ c.put-at.auto.out

pub returns : goal.returns
unfolding listing
returns c =
    let f = c.args.file.now in
    let all : take c.loop-i.i (blocks_of f) ≡ blocks_of f =
    take_all c.loop-i.i (blocks_of f) (omega (arith, length_of_lem _ _ c.requires.accepted, c.requires.blocks)) in
    λ limit groups. wrote_as
    (c.loop-i.invariant.3 limit groups _ (wrote_as c.put-at.ensures refl))
    (ap (λ (bs : List Block). flat (header ▸ lines_from (plan limit (blocks_of f)) 0 bs) []) all)
