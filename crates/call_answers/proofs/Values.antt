-- When what is given for a unit is what is told of it.
-- Assumes nothing.
use mathlib.Core.Path.{◌≡◌, refl}
use mathlib.Core.Bool.{true}
use borrow.Author.Tests.{eq-eqb, eqb-true}
use lib.Dec.{eqb}
use Rattle.base_lists.proofs.Bools.{left_true, right_true}
use Rattle.call_answers.specs.declared.Told.{Told}
use Rattle.call_answers.specs.Values.{same_values}

-- it has its own values
pub same_self : (t : Told) → same_values t t ≡ true
same_self t =
    rw (
      eq-eqb t.length t.length refl,
      eq-eqb t.done t.done refl,
      eq-eqb t.last t.last refl,
    )

-- with the same number and the same values it is the same
pub same_told : (given t : Told) → given.unit ≡ t.unit → same_values given t ≡ true → given ≡ t
same_told given t unit same =
    let rest = right_true (eqb given.length t.length) _ same in
    let length = eqb-true _ _ (left_true _ _ same) in
    let done = eqb-true _ _ (left_true _ _ rest) in
    let last = eqb-true _ _ (right_true (eqb given.done t.done) _ rest) in
    λ i. record { unit = unit i; length = length i; done = done i; last = last i }
