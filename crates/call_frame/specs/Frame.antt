-- To be believed: what a public call answers, and what it leaves in all that it is lent. Each call
-- is told by a `Call`; what a refusal leaves is said here for all of them.
use Rattle.std.specs.Prelude.{ℕ, ◌*◌, Bool, true, false, ◌||◌, cond, List, [], ◌∷◌, ◌++◌, map, length, drop, replicate, ltb}
use Rattle.std.proofs.Math.Option.{Option, none, some}
use Rattle.call_frame.specs.Answer.{Answer, refusal, value}
use Rattle.file_blocks.specs.Parse.{Block, Parsed}

-- a refusal: its number, and i, or 0 where there is no i
pub record Refusal : Type 0 where
  pub number : ℕ
  pub place : ℕ

-- a refusal without an i
abbrev pub numbered : ℕ → Refusal
numbered n = record { number = n; place = 0 }

-- what a call decides over the blocks of a file: a refusal of its own, or the values of its answer
-- and, for each lent result, what goes into its front
pub data Decision (A : Type 0) : Type 0 where
  refuses : Refusal → Decision A
  makes : A → List (List ℕ) → Decision A

-- 9 where there is nothing of what was asked for, or what is decided of it
abbrev pub if_found : {X A : Type 0} → (X → Decision A) → Option X → Decision A
if_found decide none = refuses (numbered 9)
if_found decide (some x) = decide x

-- a call: the refusal in what else it is given, if there is one; how many work numbers it needs for
-- each block, 4, or 0 where it is lent none; what it decides over the blocks, by the lengths of the
-- lent results too
pub record Call (A : Type 0) : Type 0 where
  pub early : Option Refusal
  pub per_block : ℕ
  pub own : List Block → List ℕ → Decision A

-- what a call leaves: its answer, the work numbers, the lent results
pub record Outcome (A : Type 0) : Type 0 where
  pub answer : Answer A
  pub work : List ℕ
  pub results : List (List ℕ)

-- numbers whose first m became 0
abbrev pub cleared : ℕ → List ℕ → List ℕ
cleared m work = replicate m 0 ++ drop m work

-- a refusal, with these work numbers and these results
abbrev pub refused_with : {A : Type 0} → Refusal → List ℕ → List (List ℕ) → Outcome A
refused_with r work results =
    record { answer = refusal r.number r.place; work = work; results = results }

-- whether a result is shorter than its content; a content without a result does not fit
abbrev pub too_short : List (List ℕ) → List (List ℕ) → Bool
too_short [] results = false
too_short (c ∷ contents) [] = true
too_short (c ∷ contents) (r ∷ results) = ltb (length r) (length c) || too_short contents results

-- each content in the front of its result
abbrev pub put_fronts : List (List ℕ) → List (List ℕ) → List (List ℕ)
put_fronts [] results = results
put_fronts (c ∷ contents) [] = []
put_fronts (c ∷ contents) (r ∷ results) =
    (c ++ drop (length c) r) ∷ put_fronts contents results

-- what a decision leaves, the work numbers being cleared already: the call's own refusal; 10 where
-- a result is shorter than its content; else the values, and each content in its result
abbrev pub settle : {A : Type 0} → Decision A → List ℕ → List (List ℕ) → Outcome A
settle (refuses r) work results = refused_with r work results
settle (makes v contents) work results =
    cond (too_short contents results) (refused_with (numbered 10) work results)
    (record { answer = value v; work = work; results = put_fronts contents results })

-- the refusal that is found before the blocks are looked at: the early one, or 8 where fewer work
-- numbers are lent than needed
abbrev pub before_blocks : Option Refusal → ℕ → ℕ → Option Refusal
before_blocks (some r) lent needed = some r
before_blocks none lent needed = cond (ltb lent needed) (some (numbered 8)) none

-- such a refusal, with nothing written; or what a decision leaves, the first m work numbers being
-- cleared
abbrev pub leave : {A : Type 0} → Option Refusal → ℕ → Decision A → List ℕ → List (List ℕ)
    → Outcome A
leave (some r) m decision work results = refused_with r work results
leave none m decision work results = settle decision (cleared m work) results

-- a call on n blocks, by what it decides over them
unfoldable pub call_on_blocks : {A : Type 0} → Call A → ℕ → Decision A → List ℕ → List (List ℕ)
    → Outcome A
call_on_blocks call n decision work results =
    leave (before_blocks call.early (length work) (call.per_block * n)) (call.per_block * n)
    decision work results

-- a call on a file: refusals 1 to 7 with nothing written, or the call on its blocks
unfoldable pub call_frame : {A : Type 0} → Call A → Parsed → List ℕ → List (List ℕ) → Outcome A
call_frame call (Parsed.refused n i) work results =
    refused_with (record { number = n; place = i }) work results
call_frame call (Parsed.accepted bs) work results =
    call_on_blocks call (length bs) (call.own bs (map length results)) work results
