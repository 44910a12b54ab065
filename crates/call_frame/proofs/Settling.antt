-- What the decision of a call leaves, and work numbers that a call changed and then cleared.
-- Assumes nothing.
use Prim.Native.Nat.{ℕ, ◌+◌, ◌≤◌, ◌<◌, ◌-◌}
use mathlib.Core.Path.{◌≡◌, sym, ap, ◌∙◌}
use mathlib.Core.Bool.{true, false}
use mathlib.Core.List.{List, [], ◌∷◌, ◌++◌}
use native.Mathlib.Omega.{arith}
use borrow.Author.Tests.{lt-ltb, le-ltb}
use lib.ListN.{length, get_or, drop, replicate, length-drop}
use lib.Seq.{ext_get_or, get_or-drop}
use Rattle.call_frame.specs.Answer.{value}
use Rattle.call_frame.specs.Frame.{Refusal, Decision, refuses, makes, numbered}
use Rattle.call_frame.specs.Frame.{cleared, refused_with, too_short, put_fronts, settle}

-- numbers past m, where none of them changed
past : (m : ℕ) (work work' : List ℕ) → length work' ≡ length work
    → ((k : ℕ) → m ≤ k → get_or work' k 0 ≡ get_or work k 0) → drop m work' ≡ drop m work
past m work work' same after =
    ext_get_or 0 (drop m work') (drop m work)
    (length-drop m work' ∙ ap (λ k. k - m) same ∙ sym (length-drop m work))
    (λ i _. get_or-drop m work' i 0 ∙ after (m + i) (omega arith) ∙ sym (get_or-drop m work i 0))

-- clearing forgets what became of the numbers that it clears
pub cleared_same : (m : ℕ) (work work' : List ℕ) → length work' ≡ length work
    → ((k : ℕ) → m ≤ k → get_or work' k 0 ≡ get_or work k 0)
    → cleared m work' ≡ cleared m work
cleared_same m work work' same after =
    ap (λ (l : List ℕ). replicate m 0 ++ l) (past m work work' same after)

module _ {A : Type 0} {decision : Decision A} where
  -- the call's own refusal
  pub refused_own : (r : Refusal) → decision ≡ refuses r → (work : List ℕ)
      (results : List (List ℕ))
      → refused_with r work results ≡ settle decision work results
  refused_own r is work results = rw is

  -- what a call with one result makes
  module _ (v : A) (content : List ℕ) (made : decision ≡ makes v (content ∷ []))
      (work result : List ℕ) where
    -- the result is too short
    pub refused_10 : length result < length content
        → refused_with (numbered 10) work (result ∷ []) ≡ settle decision work (result ∷ [])
    refused_10 h = rw (made, lt-ltb _ _ h)

    -- the content is in the front of the result
    pub handed_over : (v' : A) (result' : List ℕ) → v' ≡ v → length content ≤ length result
        → result' ≡ content ++ drop (length content) result
        → record { answer = value v'; work = work; results = result' ∷ [] }
        ≡ settle decision work (result ∷ [])
    handed_over v' result' same h e = rw (made, le-ltb _ _ h, e, same)

  -- what a call with any number of results makes
  module _ (v : A) (contents : List (List ℕ)) (made : decision ≡ makes v contents) (work : List ℕ)
      (results : List (List ℕ)) where
    -- a result is too short
    pub refused_short : too_short contents results ≡ true
        → refused_with (numbered 10) work results ≡ settle decision work results
    refused_short short = rw (made, short)

    -- each content is in the front of its result
    pub handed_all : (v' : A) (results' : List (List ℕ)) → v' ≡ v
        → too_short contents results ≡ false → results' ≡ put_fronts contents results
        → record { answer = value v'; work = work; results = results' }
        ≡ settle decision work results
    handed_all v' results' same long put = rw (made, long, put, same)
