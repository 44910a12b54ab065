-- To be believed: the public call for the exits of a block. It is lent nothing.
use Rattle.std.specs.Prelude.{ℕ, List, [], ◌∷◌, map, length, get_or}
use Rattle.std.proofs.Math.Option.{none}
use Rattle.std.proofs.Math.ListN.{get_elem?}
use Rattle.call_frame.specs.Answer.{Answer}
use Rattle.file_blocks.specs.Parse.{Block, Parsed}
use Rattle.plan_exits.specs.Exits.{exits}
use Rattle.call_frame.specs.Frame.{Call, makes, if_found, call_frame}
use Rattle.call_frame.specs.Numbers.{numbers_of}

-- what it makes: the keys of block k, or 9 where there is no such block
abbrev pub asks_exits : ℕ → Call (List ℕ)
asks_exits k =
    record {
      early = none;
      per_block = 0;
      own = λ (bs : List Block) (rooms : List ℕ).
          if_found (λ (ks : List ℕ). makes ks []) (get_elem? (map exits bs) k);
    }

-- the call for the exits of block k of a file
abbrev pub exits_call : ℕ → Parsed → Answer (List ℕ)
exits_call k p = (call_frame (asks_exits k) p [] []).answer

-- its numbers: after those of every answer how many keys there are, and two keys, 0 where there is
-- none
abbrev pub exits_numbers : Answer (List ℕ) → List ℕ
exits_numbers = numbers_of 3 (λ (ks : List ℕ). length ks ∷ get_or ks 0 0 ∷ get_or ks 1 0 ∷ [])
