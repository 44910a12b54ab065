-- What is printed where nothing was printed before.
use Rattle.std.proofs.Common.{ℕ, Option, None, Some, List, ◌++◌, ap, ◌∙◌}
use Rattle.std.specs.Io.KnownBytes.{Keeps, Appends}

-- a line alone
pub kept_then : (a b c : Option (List ℕ)) (line : List ℕ) → Keeps a b → Appends b c line
    → Appends a c line
kept_then None b c line p q = tt
kept_then (Some x) None c line p q = absurd p
kept_then (Some x) (Some y) None line p q = absurd q
kept_then (Some x) (Some y) (Some z) line p q = q ∙ ap (λ l. l ++ line) p
