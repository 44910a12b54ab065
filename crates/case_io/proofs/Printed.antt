-- The numbers of a line, one more than before.
use Rattle.std.proofs.Common.{◌≡◌, ℕ, List, [], ◌∷◌, ◌++◌, sym, ap, ◌∙◌, append-nil, append_assoc}
use Rattle.std.specs.Fmt.{decimal}
use Rattle.case_io.specs.Lines.{spaced}

-- one more number after some
pub spaced_more : (ns : List ℕ) (n : ℕ) → spaced (ns ++ n ∷ []) ≡ spaced ns ++ 32 ∷ decimal n
spaced_more [] n = ap (λ l. 32 ∷ l) (append-nil (decimal n))
spaced_more (m ∷ ns) n =
    ap (λ l. 32 ∷ (decimal m ++ l)) (spaced_more ns n)
    ∙ ap (λ l. 32 ∷ l) (sym (append_assoc (decimal m) (spaced ns) (32 ∷ decimal n)))
