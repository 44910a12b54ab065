-- The last mark is the Boolean value as a number.
-- Assumes nothing.
use mathlib.Core.Path.{◌≡◌, refl}
use mathlib.Core.Bool.{Bool, true, false, cond}
use mir.Val.{bool_byte}
use Rattle.call_answers.proofs.told_of.Goals as goal

-- a Boolean value as a number
bool_byte_lem : (b : Bool) → bool_byte b ≡ cond b 1 0
bool_byte_lem true = refl
bool_byte_lem false = refl

pub returns : goal.returns
returns c = rw (bool_byte_lem c.args.last)
