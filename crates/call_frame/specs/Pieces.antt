-- To be believed: what is decided by a call that makes as many pieces as fit what it is lent.
use Rattle.std.specs.Prelude.{List, [], ◌∷◌}
use Rattle.base_fitting.specs.Fitting.{or_first}
use Rattle.call_frame.specs.Frame.{Decision, refuses, numbered}

-- 9 where there are no pieces; else what is made of those that fit, or of the first alone where not
-- even that does, for which the results are then too short
abbrev pub of_those_that_fit : {X A : Type 0} → (List X → Decision A) → (List X → List X) → List X
    → Decision A
of_those_that_fit make fit [] = refuses (numbered 9)
of_those_that_fit make fit (x ∷ xs) = make (or_first x (fit (x ∷ xs)))
