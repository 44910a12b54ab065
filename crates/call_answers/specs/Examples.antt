-- Examples: what is told of a unit, and values that are the same or not, computed.
use Rattle.std.specs.Prelude.{◌≡◌, refl, true, false}
use Rattle.call_answers.specs.Values.{told_of, same_values}

-- the last mark is 1 for the last unit, and 0 for another
told_last : told_of 4 1 7 true ≡ record { unit = 4; length = 1; done = 7; last = 1 }
told_last = refl

told_other : told_of 4 1 7 false ≡ record { unit = 4; length = 1; done = 7; last = 0 }
told_other = refl

-- the three values are compared, and not the number
other_unit : same_values (told_of 4 1 7 true) (told_of 5 1 7 true) ≡ true
other_unit = refl

other_length : same_values (told_of 4 1 7 true) (told_of 4 2 7 true) ≡ false
other_length = refl

other_done : same_values (told_of 4 1 7 true) (told_of 4 1 6 true) ≡ false
other_done = refl

other_mark : same_values (told_of 4 1 7 true) (told_of 4 1 7 false) ≡ false
other_mark = refl

-- a mark is the same only as the number that it is
two : same_values (record { unit = 4; length = 1; done = 7; last = 2 }) (told_of 4 1 7 true) ≡ false
two = refl
