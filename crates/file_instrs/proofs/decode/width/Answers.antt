-- `width` reads the width of a Mem: a number that is neither 0 nor 1 is from 2 on, where the
-- definition has a word.
use Rattle.armv4t.specs.declared.MemWidth.{MemWidth}
use Prim.Native.Nat.{ℕ, zero, suc, ◌≤◌, zero-le}
use native.Mathlib.Nat.{le_of_suc-le-suc, not-suc-le-zero}
use Rattle.file_instrs.specs.Decode.{width_of}
use Rattle.file_instrs.proofs.Limits.{next}
use mathlib.Core.Path.{◌≡◌, refl, sym}
use Rattle.file_instrs.proofs.decode.width.Goals as goal

-- a number from 2 on encodes a word
from_two : (n : ℕ) → 2 ≤ n → width_of n ≡ MemWidth.Word
from_two zero h = absurd (not-suc-le-zero h)
from_two (suc zero) h = absurd (not-suc-le-zero (le_of_suc-le-suc h))
from_two (suc (suc zero)) h = refl
from_two (suc (suc (suc n))) h = refl

pub returns-in_default : goal.returns-in_default
returns-in_default c = sym (from_two _ (next (next zero-le c.in_default.in_default-own.rest.0.1) c.in_default.in_default-own.rest.1))
