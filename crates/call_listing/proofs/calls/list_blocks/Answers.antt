-- One law for each of the two answers; the work numbers that grouping and the groups of the blocks
-- changed are all cleared. Assumes nothing.
use Rattle.std.proofs.Common.{◌≤◌, length, refl, ◌∙◌, arith}
use Rattle.file_blocks.specs.Parse.{blocks_of}
use Rattle.base_text.proofs.Laws.{whole}
use Rattle.base_text.specs.Doc.{print}
use Rattle.plan_members.proofs.Groups.{groups_planned, groups_room, groups_past}
use Rattle.call_frame.proofs.Opening.{settled_call}
use Rattle.call_frame.proofs.Settling.{cleared_same, refused_10, handed_over}
use Rattle.call_listing.specs.Calls.{asks_listing}
use Rattle.call_listing.specs.Listing.{listing}
use Rattle.call_listing.proofs.calls.list_blocks.Goals as goal

pub group_blocks-requires : goal.group_blocks-requires
group_blocks-requires c =
    ((c.requires.room, c.requires.few, c.requires.blocks), c.requires.accepted)

pub returns-then-text-length : goal.returns-then-text-length
returns-then-text-length c =
    record {
      answer = let a = c.args in
          let long = c.listing_length-length.ensures a.limit
          (groups_planned c.group_blocks.ensures c.put_groups.ensures) in
          settled_call (asks_listing a.limit) _ _ _ _ c.requires _
          (c.clear.ensures
          ∙ cleared_same _ _ _ (groups_room c.group_blocks.ensures c.put_groups.ensures) (groups_past c.group_blocks.ensures c.put_groups.ensures)) _
          (refused_10 _ (print (listing a.limit (blocks_of a.file.now))) refl _ a.text.now
          (omega (arith, long)));
    }

pub returns : goal.returns
returns c =
    record {
      answer = let a = c.args in
          let content = print (listing a.limit (blocks_of a.file.now)) in
          let planned = groups_planned c.group_blocks.ensures c.put_groups.ensures in
          let long = c.listing_length-length.ensures a.limit planned in
          let fits : length content ≤ length a.text.now = omega (arith, long) in
          settled_call (asks_listing a.limit) _ _ _ _ c.requires _
          (c.clear-2.ensures
          ∙ cleared_same _ _ _ (groups_room c.group_blocks.ensures c.put_groups.ensures) (groups_past c.group_blocks.ensures c.put_groups.ensures)) _
          (handed_over _ content refl _ a.text.now _ _ long fits
          (whole (c.put_listing.ensures a.limit planned) fits).0);
    }
