-- `join_block` makes the edges of a block: none if it is not of page 8, else those of its exits,
-- which begin at the instruction that quarter 3 has for it.
use Rattle.plan_exits.specs.Exits.{exits}
use Rattle.file_blocks.specs.Parse.{block_at}
use Rattle.file_records.specs.Trailer.{block_start}
use Prim.Native.Nat.{ℕ}
use mathlib.Core.Path.{ap, sym, ◌∙◌}
use Rattle.plan_groups.proofs.Joining as joining
use Rattle.plan_groups.proofs.groups.join_block.Goals as goal

pub returns-in_default : goal.returns-in_default
returns-in_default c =
    joining.block_missing _ _ _ _ _ c.block_at.ensures
    c.requires.has_room_at.2 c.requires.has_room_at.3 c.requires.accepted.0 c.in_default.is

pub returns-then-not-on_page_8 : goal.returns-then-not-on_page_8
returns-then-not-on_page_8 c =
    joining.block_apart _ _ _ _ _ c.block_at.ensures c.requires.has_room_at.2 c.requires.has_room_at.3
    _ c.in-Some.is
    (sym c.on_page_8.ensures ∙ c.if-not-on_page_8.true)

pub returns : goal.returns
returns c =
    let args = c.args in
    let found = c.in-Some.is in
    let starts = c.as_index-first.ensures ∙ c.requires.has_firsts _ c.requires.has_room_at.2 in
    joining.block_joins _ _ _ _ _ c.block_at.ensures c.requires.has_room_at.2 c.requires.has_room_at.3 _ found
    (sym c.on_page_8.ensures
    ∙ c.if-not-on_page_8.false)
    c.exits_at-exits.result _
    (c.exits_at-exits.ensures _
    (record { accepted = c.requires.accepted.0; found = sym c.block_at.ensures ∙ found; starts = starts })
    ∙ ap (λ (k : ℕ). exits (block_at args.file.now (block_start args.file.now args.i) k))
    starts)
    c.join_exits.ensures
