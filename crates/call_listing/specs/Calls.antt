-- To be believed: the public call for the listing of a file. It is lent work numbers and a text.
use Rattle.std.specs.Prelude.{ℕ, List, [], ◌∷◌, length}
use Rattle.std.proofs.Math.Option.{none}
use Rattle.file_blocks.specs.Parse.{Block, Parsed}
use Rattle.base_text.specs.Doc.{print}
use Rattle.call_frame.specs.Frame.{Call, Outcome, makes, call_frame}
use Rattle.call_frame.specs.Numbers.{Handed, handed}
use Rattle.call_listing.specs.Listing.{listing}

-- what it makes at a group limit: the length of the text, and the text
abbrev pub asks_listing : ℕ → Call ℕ
asks_listing limit =
    record {
      early = none;
      per_block = 4;
      own = λ (bs : List Block) (rooms : List ℕ).
          makes (length (print (listing limit bs))) (print (listing limit bs) ∷ []);
    }

-- the call for the listing of a file, by the work numbers and the text that are lent
abbrev pub listing_call : ℕ → Parsed → List ℕ → List ℕ → Outcome ℕ
listing_call limit p work text = call_frame (asks_listing limit) p work (text ∷ [])

-- what it hands over: after the numbers of every answer the length
abbrev pub listing_numbers : Outcome ℕ → Handed
listing_numbers = handed 1 (λ (n : ℕ). n ∷ [])
