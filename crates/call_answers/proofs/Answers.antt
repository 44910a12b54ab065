-- What an answer of writing tells of the values and of the room.
-- Assumes nothing.
use Prim.Native.Nat.{ℕ, ◌≤◌, ◌<◌}
use mathlib.Core.Path.{◌≡◌, refl}
use mathlib.Core.Bool.{Bool, true, false, cond}
use borrow.Author.Tests.{ltb-true, ltb-false}
use lib.Dec.{ltb}
use Rattle.call_answers.specs.declared.Told.{Told}
use Rattle.call_frame.specs.declared.refusal.Refusal.{Refusal}
use Rattle.std.specs.Prelude.{Result, Ok, Err}
use Rattle.call_answers.specs.Values.{same_values}
use Rattle.call_answers.specs.Answers.{answer_in}

-- which of the three answers it is, and why
pub data Why (given found : Told) (room : ℕ) : Result Unit Refusal → Type 0 where
  differs : same_values given found ≡ false → Why given found room (Err Refusal.Differs)
  short : same_values given found ≡ true → room < found.length
      → Why given found room (Err Refusal.ShortResult)
  fits : same_values given found ≡ true → found.length ≤ room
      → Why given found room (Ok tt)

module _ (given found : Told) (room : ℕ) where
  by_room : (t : Bool) → ltb room found.length ≡ t → same_values given found ≡ true
      → Why given found room (cond t (Err Refusal.ShortResult) (Ok tt))
  by_room true h same = short same (ltb-true _ _ h)
  by_room false h same = fits same (ltb-false _ _ h)

  pub why : Why given found room (answer_in given found room)
  why = go (same_values given found) refl
    where
      go : (s : Bool) → same_values given found ≡ s
          → Why given found room
          (cond s (cond (ltb room found.length) (Err Refusal.ShortResult) (Ok tt))
          (Err Refusal.Differs))
      go true same = by_room (ltb room found.length) refl same
      go false other = differs other

-- another value that is given is refused, whatever the room
pub differs_first : (given found : Told) (room : ℕ) → same_values given found ≡ false
    → Err Refusal.Differs ≡ answer_in given found room
differs_first given found room e = rw e refl
