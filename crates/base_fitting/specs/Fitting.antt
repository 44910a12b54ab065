-- To be believed: which of some pieces fit what is lent, for calls that write many of them.
use Rattle.std.specs.Prelude.{ℕ, zero, suc, ◌-◌, cond, List, [], ◌∷◌, ltb}

-- the longest front of some pieces that fits a room, in which a piece takes its size, and which has
-- no more pieces than there are places
unfoldable pub fitting : {X : Type 0} → (X → ℕ) → ℕ → ℕ → List X → List X
fitting size room places [] = []
fitting size room zero (x ∷ xs) = []
fitting size room (suc places) (x ∷ xs) =
    cond (ltb room (size x)) [] (x ∷ fitting size (room - size x) places xs)

-- what is made of pieces of which x is the first: those that fit or, where not even the first does,
-- the first alone, so that what is lent is found too short for it
abbrev pub or_first : {X : Type 0} → X → List X → List X
or_first x [] = x ∷ []
or_first x (y ∷ ys) = y ∷ ys
