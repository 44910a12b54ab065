-- To be believed: the refusals of the code, as the answers of calls have them.
use Rattle.std.specs.Prelude.{ℕ, Option, Some, None, Result, Ok, Err}
use Rattle.std.proofs.Math.Option as maybe
use Rattle.file_blocks.specs.Refusal as rule
use Rattle.call_frame.specs.Answer.{Answer, refusal, value}
use Rattle.call_frame.specs.Frame as frame
use Rattle.call_frame.specs.declared.refusal.Refusal.{Refusal}

-- the number of a refusal; 1 to 7 are those of the file's rules, and an early one has its own
abbrev pub number : Refusal → ℕ
number (Refusal.File r) = rule.number r
number (Refusal.Early n i) = n
number Refusal.FewNumbers = 8
number Refusal.NotFound = 9
number Refusal.ShortResult = 10
number Refusal.Differs = 11

-- i of a refusal, or 0 where there is none
abbrev pub place : Refusal → ℕ
place (Refusal.File r) = rule.place r
place (Refusal.Early n i) = i
place Refusal.FewNumbers = 0
place Refusal.NotFound = 0
place Refusal.ShortResult = 0
place Refusal.Differs = 0

-- the answer that a result of the code stands for, by what its values stand for
abbrev pub answer_by : {A B : Type 0} → (A → B) → Result A Refusal → Answer B
answer_by f (Ok v) = value (f v)
answer_by f (Err r) = refusal (number r) (place r)

-- the same where they stand for themselves
abbrev pub answer_of : {A : Type 0} → Result A Refusal → Answer A
answer_of (Ok v) = value v
answer_of (Err r) = refusal (number r) (place r)

-- a refusal of the code among those of calls
abbrev pub refusal_of : Refusal → frame.Refusal
refusal_of r = record { number = number r; place = place r }

-- the same where there may be none
abbrev pub early_of : Option Refusal → maybe.Option frame.Refusal
early_of None = maybe.none
early_of (Some r) = maybe.some (refusal_of r)
