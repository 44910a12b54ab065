-- Examples: the listing of document 01's three blocks and the call for it, computed.
use Rattle.std.specs.Prelude.{◌≡◌, [], ◌∷◌, ◌++◌, replicate, refl}
use Rattle.call_frame.specs.Answer.{refusal, value}
use Rattle.file_blocks.specs.Parse.{Parsed}
use Rattle.file_keys.specs.Order.{insert, sort_by_key}
use Rattle.plan_groups.specs.Limit.{part_limit}
use Rattle.call_frame.specs.Frame.{call_on_blocks, call_frame}
use Rattle.base_text.specs.Digits.{numeral, last_digits}
use Rattle.base_text.specs.Doc.{text, decimal, hexadecimal8, print}
use Rattle.plan_exits.specs.Examples.{arm_block, three_blocks}
use Rattle.plan_exits.specs.Exits.{exits, instr_exits}
use Rattle.base_forest.specs.Roots.{follow}
use Rattle.plan_search.specs.Target.{target}
use Rattle.plan_groups.specs.Plan.{join_exits, join_blocks, parents, with_root}
use Rattle.plan_groups.specs.Plan.{parts, groups_from, groups, rows_from, plan}
use Rattle.call_listing.specs.Calls.{listing_call}
use Rattle.call_listing.specs.Listing.{block_line, lines_from, listing}
use Rattle.plan_groups.specs.Plan.{group_of}

three_blocks_lem : print (listing part_limit three_blocks)
    ≡ print (text "key group exits\n08000000 1 08000008\n08000004 0 -\n08000008 1 -\n")
unfolding print decimal hexadecimal8 numeral last_digits listing lines_from block_line group_of
    three_blocks arm_block plan rows_from groups groups_from parts sort_by_key insert with_root parents
    join_blocks join_exits target follow exits instr_exits
three_blocks_lem = refl

-- eleven work numbers are too few
listing_8 : listing_call part_limit (Parsed.accepted three_blocks) (replicate 11 5) []
    ≡ record { answer = refusal 8 0; work = replicate 11 5; results = [] ∷ [] }
unfolding call_frame call_on_blocks three_blocks
listing_8 = refl

-- the text has 62 bytes: 61 are too few, and of thirteen work numbers twelve are cleared
listing_10 : listing_call part_limit (Parsed.accepted three_blocks) (replicate 13 5) (replicate 61 7)
    ≡ record
    { answer = refusal 10 0; work = replicate 12 0 ++ (5 ∷ []); results = replicate 61 7 ∷ [] }
unfolding call_frame call_on_blocks print decimal hexadecimal8 numeral last_digits listing lines_from
    block_line group_of three_blocks arm_block plan rows_from groups groups_from parts sort_by_key insert
    with_root parents join_blocks join_exits target follow exits instr_exits
listing_10 = refl

-- in 63 bytes the last one is left
listing_made : listing_call part_limit (Parsed.accepted three_blocks) (replicate 12 5) (replicate 63 7)
    ≡ record {
      answer = value 62;
      work = replicate 12 0;
      results =
          (print (text "key group exits\n08000000 1 08000008\n08000004 0 -\n08000008 1 -\n")
          ++ (7 ∷ []))
          ∷ [];
    }
unfolding call_frame call_on_blocks print decimal hexadecimal8 numeral last_digits listing lines_from
    block_line group_of three_blocks arm_block plan rows_from groups groups_from parts sort_by_key insert
    with_root parents join_blocks join_exits target follow exits instr_exits
listing_made = refl
