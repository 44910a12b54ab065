-- Examples: the frame on some blocks, on none and on a refused file, computed; the calls have
-- others.
use Rattle.std.specs.Prelude.{ℕ, ◌≡◌, refl, List, [], ◌∷◌}
use Rattle.std.proofs.Math.Option.{Option, none, some}
use Rattle.call_frame.specs.Answer.{refusal, value}
use Rattle.file_blocks.specs.Parse.{Block, Parsed}
use Rattle.call_frame.specs.Frame.{Refusal, Decision, Call, refuses, makes, numbered}
use Rattle.call_frame.specs.Frame.{call_on_blocks, call_frame}
use Rattle.call_frame.specs.Numbers.{handed}

-- a call with two results, which decides the same whatever the blocks are
unfoldable some_call : Option Refusal → Decision ℕ → Call ℕ
some_call early decision =
    record { early = early; per_block = 4; own = λ (bs : List Block) (rooms : List ℕ). decision }

-- what it makes: the value 5, two numbers and one
unfoldable made : Decision ℕ
made = makes 5 ((1 ∷ 2 ∷ []) ∷ (3 ∷ []) ∷ [])

-- what it is lent: five work numbers, and results of three numbers and of one
unfoldable lent : List (List ℕ)
lent = (7 ∷ 7 ∷ 7 ∷ []) ∷ (8 ∷ []) ∷ []

-- on one block four work numbers become 0, and each result has its content in front
handed_over : call_on_blocks (some_call none made) 1 made (9 ∷ 9 ∷ 9 ∷ 9 ∷ 9 ∷ []) lent
    ≡ record {
      answer = value 5;
      work = 0 ∷ 0 ∷ 0 ∷ 0 ∷ 9 ∷ [];
      results = (1 ∷ 2 ∷ 7 ∷ []) ∷ (3 ∷ []) ∷ [];
    }
unfolding call_on_blocks some_call made lent
handed_over = refl

-- the second result is too short, so that neither is written
second_short : call_on_blocks (some_call none made) 1 made (9 ∷ 9 ∷ 9 ∷ 9 ∷ 9 ∷ [])
    ((7 ∷ 7 ∷ 7 ∷ []) ∷ [] ∷ [])
    ≡ record {
      answer = refusal 10 0;
      work = 0 ∷ 0 ∷ 0 ∷ 0 ∷ 9 ∷ [];
      results = (7 ∷ 7 ∷ 7 ∷ []) ∷ [] ∷ [];
    }
unfolding call_on_blocks some_call made
second_short = refl

-- and so it is where no second result is lent
second_missing : call_on_blocks (some_call none made) 1 made (9 ∷ 9 ∷ 9 ∷ 9 ∷ 9 ∷ [])
    ((7 ∷ 7 ∷ 7 ∷ []) ∷ [])
    ≡ record {
      answer = refusal 10 0;
      work = 0 ∷ 0 ∷ 0 ∷ 0 ∷ 9 ∷ [];
      results = (7 ∷ 7 ∷ 7 ∷ []) ∷ [];
    }
unfolding call_on_blocks some_call made
second_missing = refl

-- the call's own refusal comes before 10
own_first : call_on_blocks (some_call none made) 1 (refuses (numbered 9)) (9 ∷ 9 ∷ 9 ∷ 9 ∷ []) []
    ≡ record { answer = refusal 9 0; work = 0 ∷ 0 ∷ 0 ∷ 0 ∷ []; results = [] }
unfolding call_on_blocks some_call made
own_first = refl

-- three work numbers are too few for one block; nothing is written
few_numbers : call_on_blocks (some_call none made) 1 made (9 ∷ 9 ∷ 9 ∷ []) []
    ≡ record { answer = refusal 8 0; work = 9 ∷ 9 ∷ 9 ∷ []; results = [] }
unfolding call_on_blocks some_call made
few_numbers = refl

-- an early refusal comes before 8
early_first : call_on_blocks (some_call (some (numbered 12)) made) 1 made (9 ∷ []) []
    ≡ record { answer = refusal 12 0; work = 9 ∷ []; results = [] }
unfolding call_on_blocks some_call made
early_first = refl

-- and the refusal of the file before that; through the interface its values are 0
file_first : handed 1 (λ (n : ℕ). n ∷ [])
    (call_frame (some_call (some (numbered 12)) made) (Parsed.refused 4 2) (9 ∷ []) lent)
    ≡ record { numbers = 4 ∷ 2 ∷ 0 ∷ []; work = 9 ∷ []; results = lent }
unfolding call_frame
file_first = refl

-- a file without blocks needs no work numbers
no_blocks : call_frame (some_call none made) (Parsed.accepted []) (9 ∷ []) lent
    ≡ record { answer = value 5; work = 9 ∷ []; results = (1 ∷ 2 ∷ 7 ∷ []) ∷ (3 ∷ []) ∷ [] }
unfolding call_frame call_on_blocks some_call made lent
no_blocks = refl
