-- To be believed: the answers of public calls, as document 01 has them.
use Rattle.std.specs.Prelude.{ℕ}

-- a refusal with its number and i, or 0 where there is no i; or the values of a success
pub data Answer (A : Type 0) : Type 0 where
  refusal : ℕ → ℕ → Answer A
  value : A → Answer A
