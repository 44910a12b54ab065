-- To be believed: what the program prints.
use Rattle.std.specs.Prelude.{ℕ, ◌≡◌, refl, cond, List, [], ◌∷◌, ltb, length, take, get_or}
use Rattle.std.specs.Prelude.{replicate}
use Rattle.base_text.specs.Digits.{numeral, last_digits}
use Rattle.base_text.specs.Doc.{Doc, text, dec, decimal, ◌▸◌, print}
use Rattle.file_blocks.specs.Parse.{parse}
use Rattle.plan_groups.specs.Limit.{part_limit}
use Rattle.call_frame.specs.Answer.{Answer, refusal, value}
use Rattle.call_frame.specs.Frame.{Outcome}
use Rattle.call_listing.specs.Calls.{listing_call}

-- the longest file that is listed
abbrev pub longest : ℕ
longest = 65536

-- the line of a refusal
abbrev pub refusal_line : ℕ → ℕ → Doc
refusal_line n i = text "refused " ▸ dec n ▸ text " at " ▸ dec i ▸ text "\n"

-- what is printed for an answer of the call for the listing: so many bytes of the text that the
-- call was lent, or the line of the refusal and nothing else
abbrev pub answer_text : Answer ℕ → List ℕ → List ℕ
answer_text (refusal n i) lent = print (refusal_line n i)
answer_text (value n) lent = take n lent

-- the same for what the call leaves, whose first result is the text
unfoldable pub shown : Outcome ℕ → List ℕ
shown left = answer_text left.answer (get_or left.results 0 [])

-- the work numbers that the program lends: four for each of 4,096 blocks
unfoldable pub lent_work : List ℕ
lent_work = replicate 16384 0

-- the bytes that it lends for the text
abbrev pub room : ℕ
room = 196608

-- and what stands in them
unfoldable pub lent_text : List ℕ
lent_text = replicate room 0

-- what is printed for a file, of which no more than one byte past the longest need be known. For
-- every other file the buffers suffice (`listing_printed`, `refusal_printed` in proofs/Room.antt)
unfoldable pub output : List ℕ → List ℕ
output f =
    cond (ltb longest (length f)) (print (text "too long\n"))
    (shown (listing_call part_limit (parse f) lent_work lent_text))

-- a text of two bytes in the front of three, and a refusal
text_shown : shown (record { answer = value 2; work = []; results = (7 ∷ 8 ∷ 9 ∷ []) ∷ [] })
    ≡ 7 ∷ 8 ∷ []
unfolding shown
text_shown = refl

refusal_shown : shown (record { answer = refusal 4 2; work = []; results = (7 ∷ []) ∷ [] })
    ≡ print (text "refused 4 at 2\n")
unfolding shown print decimal numeral last_digits
refusal_shown = refl

-- a file that is one byte too long
too_long : (f : List ℕ) → length f ≡ 65537 → output f ≡ print (text "too long\n")
unfolding output
too_long f e = rw e
