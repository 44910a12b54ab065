-- To be believed: what measuring tells of a unit, and when what is given back has its values.
use Rattle.std.specs.Prelude.{ℕ, Bool, ◌&&◌, cond, eqb}
use Rattle.call_answers.specs.declared.Told.{Told}

-- what is told of a unit (document 02): its number, the length of its text, how many blocks are
-- done up to its end, from the first unit on, and its last mark, 1 for the last unit, else 0
abbrev pub told_of : ℕ → ℕ → ℕ → Bool → Told
told_of unit length done last =
    record { unit = unit; length = length; done = done; last = cond last 1 0 }

-- whether none of the three values beside the number differs (document 02)
abbrev pub same_values : Told → Told → Bool
same_values given found =
    eqb given.length found.length
    && (eqb given.done found.done && eqb given.last found.last)
