-- Examples: the calls for a unit on a refused file, and on one whose blocks are too many for the
-- work numbers; what is made of a small unit by what is given for it; a file without blocks;
-- computed.
use Rattle.std.specs.Prelude.{ℕ, ◌≡◌, refl, true, false, List, [], ◌∷◌, ◌++◌}
use Rattle.base_text.specs.Digits.{numeral, last_digits}
use Rattle.base_text.specs.Doc.{decimal, hexadecimal, hexadecimal8, hexadecimal16, print}
use Rattle.c_tree.specs.Stmt.{blank}
use Rattle.call_frame.specs.Answer.{refusal, value}
use Rattle.file_records.specs.Trailer.{trailer_word, within_limits, trailer_right}
use Rattle.file_records.specs.BlockRecord.{count_sum}
use Rattle.file_blocks.specs.Parse.{Parsed, blocks_from, parse}
use Rattle.file_keys.specs.Order.{sort_by_key}
use Rattle.plan_groups.specs.Plan.{join_blocks, parents, parts, groups_from, groups}
use Rattle.lower_units.specs.Units.{TranslationUnit, text_of, cut, emit_c_chunked, units_by}
use Rattle.lower_units.specs.Units.{bodies_of, last_unit_end}
use Rattle.plan_exits.specs.Examples.{three_blocks}
use Rattle.call_frame.specs.Frame.{Outcome, settle, call_on_blocks, call_frame}
use Rattle.call_answers.specs.declared.Told.{Told}
use Rattle.call_answers.specs.Values.{told_of}
use Rattle.call_unit.specs.Calls.{asks_of_unit, measures, writes, made_unit, unit_call}
use Rattle.call_unit.specs.Calls.{measure_call, measure_numbers, write_call, write_numbers}
use Rattle.call_unit.specs.Claims.{without_values}

-- what is given for unit 4: a byte, seven blocks done, and a last mark
abbrev given : ℕ → Told
given last = record { unit = 4; length = 1; done = 7; last = last }

-- the numbers handed over on refusal
measure_refused : measure_numbers (measure_call 8192 0 0 (Parsed.refused 4 2) (5 ∷ []))
    ≡ record { numbers = 4 ∷ 2 ∷ 0 ∷ 0 ∷ 0 ∷ 0 ∷ []; work = 5 ∷ []; results = [] }
unfolding call_frame
measure_refused = refl

write_refused : write_numbers (write_call 8192 0 (given 1) (Parsed.refused 4 2) (5 ∷ []) (7 ∷ []))
    ≡ record { numbers = 4 ∷ 2 ∷ []; work = 5 ∷ []; results = (7 ∷ []) ∷ [] }
unfolding call_frame
write_refused = refl

-- one work number is too few, whatever is given
measure_8 : measure_call 8192 0 0 (Parsed.accepted three_blocks) (5 ∷ [])
    ≡ record { answer = refusal 8 0; work = 5 ∷ []; results = [] }
unfolding call_frame call_on_blocks three_blocks
measure_8 = refl

unit_8 : unit_call 8192 0 0 (Parsed.accepted three_blocks) (5 ∷ []) (7 ∷ [])
    ≡ record { answer = refusal 8 0; work = 5 ∷ []; results = (7 ∷ []) ∷ [] }
unfolding call_frame call_on_blocks three_blocks
unit_8 = refl

write_8 : write_call 8192 0 (given 2) (Parsed.accepted three_blocks) (5 ∷ []) (7 ∷ [])
    ≡ record { answer = refusal 8 0; work = 5 ∷ []; results = (7 ∷ []) ∷ [] }
unfolding call_frame call_on_blocks three_blocks
write_8 = refl

-- a unit with a text of one byte, the last, with which seven blocks are done
abbrev small : TranslationUnit
small = record { tree = blank ∷ []; done = 7; last = true }

-- measuring it as unit 4 tells four numbers
small_measured : settle (measures 4 small) (0 ∷ []) []
    ≡ record { answer = value (given 1); work = 0 ∷ []; results = [] }
unfolding text_of print
small_measured = refl

-- the one call tells three of them, and writes it
small_made : settle (made_unit small) (0 ∷ []) ((8 ∷ 9 ∷ []) ∷ [])
    ≡ record {
      answer = value (record { length = 1; done = 7; last = true });
      work = 0 ∷ [];
      results = (10 ∷ 9 ∷ []) ∷ [];
    }
unfolding text_of print
small_made = refl

-- what writing it leaves, by what is given and a text
abbrev leaves : Told → List ℕ → Outcome Unit
leaves t text = settle (writes t small) (0 ∷ []) (text ∷ [])

-- with what was told it is written, into a text that it fits
small_written : leaves (given 1) (8 ∷ 9 ∷ [])
    ≡ record { answer = value tt; work = 0 ∷ []; results = (10 ∷ 9 ∷ []) ∷ [] }
unfolding text_of print
small_written = refl

-- which is what the one call leaves, without the values
written_as_made : without_values (settle (made_unit small) (0 ∷ []) ((8 ∷ 9 ∷ []) ∷ []))
    ≡ leaves (given 1) (8 ∷ 9 ∷ [])
unfolding text_of print
written_as_made = refl

-- into a text that is too short it is not, by either
short_as_made : without_values (settle (made_unit small) (0 ∷ []) ([] ∷ [])) ≡ leaves (given 1) []
unfolding text_of print
short_as_made = refl

small_short : leaves (given 1) []
    ≡ record { answer = refusal 10 0; work = 0 ∷ []; results = [] ∷ [] }
unfolding text_of print
small_short = refl

-- a last mark that is not the unit's (no unit has 2) is refused before a short text
small_mark : leaves (given 2) []
    ≡ record { answer = refusal 11 0; work = 0 ∷ []; results = [] ∷ [] }
unfolding text_of print
small_mark = refl

-- blocks done that differ: the text is as it was
small_done : leaves (told_of 4 1 6 true) (8 ∷ [])
    ≡ record { answer = refusal 11 0; work = 0 ∷ []; results = (8 ∷ []) ∷ [] }
unfolding text_of print
small_done = refl

-- at 11 the four work numbers of a block are 0, as after measuring
block_11 : call_on_blocks (asks_of_unit (writes (given 2)) 8192 0 4) 1 (writes (given 2) small)
    (9 ∷ 9 ∷ 9 ∷ 9 ∷ 9 ∷ []) ((8 ∷ []) ∷ [])
    ≡ record {
      answer = refusal 11 0;
      work = 0 ∷ 0 ∷ 0 ∷ 0 ∷ 9 ∷ [];
      results = (8 ∷ []) ∷ [];
    }
unfolding call_on_blocks text_of print
block_11 = refl

-- the numbers handed over of a unit of two bytes that is not the last, in the order of the
-- interface, and of a unit that is written
told_handed : measure_numbers
    (settle (measures 4 (record { tree = blank ∷ blank ∷ []; done = 7; last = false })) [] [])
    ≡ record { numbers = 0 ∷ 0 ∷ 4 ∷ 2 ∷ 7 ∷ 0 ∷ []; work = []; results = [] }
unfolding text_of print
told_handed = refl

written_handed : write_numbers (leaves (given 1) (8 ∷ []))
    ≡ record { numbers = 0 ∷ 0 ∷ []; work = 0 ∷ []; results = (10 ∷ []) ∷ [] }
unfolding text_of print
written_handed = refl

-- a file without blocks: its trailer alone
no_blocks_lem : List ℕ
no_blocks_lem =
    (1 ∷ 0 ∷ 0 ∷ 0 ∷ 32 ∷ 0 ∷ 0 ∷ 0 ∷ 0 ∷ 0 ∷ 0 ∷ 0 ∷ 32 ∷ 0 ∷ 0 ∷ 0 ∷ [])
    ++ (0 ∷ 0 ∷ 0 ∷ 0 ∷ 32 ∷ 0 ∷ 0 ∷ 0 ∷ 0 ∷ 0 ∷ 0 ∷ 0 ∷ 32 ∷ 0 ∷ 0 ∷ 0 ∷ [])

-- it has one unit at every size, here 0, so that there is a file of which measuring tells something
file_measured : measure_call 8192 0 0 (parse no_blocks_lem) []
    ≡ record {
      answer = value (record { unit = 0; length = 2203; done = 0; last = 1 });
      work = [];
      results = [];
    }
unfolding no_blocks_lem call_frame call_on_blocks parse blocks_from trailer_word within_limits trailer_right
    count_sum emit_c_chunked units_by cut bodies_of last_unit_end text_of print decimal numeral hexadecimal
    hexadecimal8 hexadecimal16 last_digits groups groups_from parts sort_by_key parents join_blocks
file_measured = refl

-- no text is lent to write it into: with a byte less in what is given that is 11, and else 10
file_11 : write_call 8192 0 (told_of 0 2202 0 true) (parse no_blocks_lem) [] []
    ≡ record { answer = refusal 11 0; work = []; results = [] ∷ [] }
unfolding no_blocks_lem call_frame call_on_blocks parse blocks_from trailer_word within_limits trailer_right
    count_sum emit_c_chunked units_by cut bodies_of last_unit_end text_of print decimal numeral hexadecimal
    hexadecimal8 hexadecimal16 last_digits groups groups_from parts sort_by_key parents join_blocks
file_11 = refl

file_10 : write_call 8192 0 (told_of 0 2203 0 true) (parse no_blocks_lem) [] []
    ≡ record { answer = refusal 10 0; work = []; results = [] ∷ [] }
unfolding no_blocks_lem call_frame call_on_blocks parse blocks_from trailer_word within_limits trailer_right
    count_sum emit_c_chunked units_by cut bodies_of last_unit_end text_of print decimal numeral hexadecimal
    hexadecimal8 hexadecimal16 last_digits groups groups_from parts sort_by_key parents join_blocks
file_10 = refl

-- there is no second unit, to be measured or to be written: 9 comes before 11
measure_9 : measure_call 8192 0 1 (parse no_blocks_lem) []
    ≡ record { answer = refusal 9 0; work = []; results = [] }
unfolding no_blocks_lem call_frame call_on_blocks parse blocks_from trailer_word within_limits trailer_right
    count_sum emit_c_chunked units_by cut groups groups_from parents join_blocks
measure_9 = refl

write_9 : write_call 8192 0 (given 2) (parse no_blocks_lem) [] []
    ≡ record { answer = refusal 9 0; work = []; results = [] ∷ [] }
unfolding no_blocks_lem call_frame call_on_blocks parse blocks_from trailer_word within_limits trailer_right
    count_sum emit_c_chunked units_by cut groups groups_from parents join_blocks
write_9 = refl
