-- What is printed for a part of what can be read, as for all of it.
use Rattle.std.proofs.Common.{◌≡◌, ℕ, ◌≤◌, ◌<◌, List, [], ◌++◌, length, sym, ap, ◌∙◌}
use Rattle.std.proofs.Common.{arith, refl, Bool, true, false, append-nil, length-append, subst}
use Rattle.std.specs.Prelude.{Option, None, Some, Result, Ok, Err, OnOk, IfSome}
use Rattle.std.specs.Io.KnownBytes.{Appends, Consumes, IsAtEnd}
use lib.Dec.{ltb}
use borrow.Author.Tests.{ltb-true, ltb-false, lt-ltb}
use Rattle.list_program.specs.Output.{longest, output}

-- the same, by whether the part is too long
by_length : (f front rest : List ℕ) → f ≡ front ++ rest
    → (length front ≤ longest → rest ≡ [])
    → (long : Bool) → ltb longest (length front) ≡ long
    → output front ≡ output f
unfolding output
by_length f front rest is ends true long =
    let part : longest < length front = ltb-true longest (length front) long in
    let all : longest < length f = omega (arith, ap length is, length-append front rest, part) in
    rw (long, lt-ltb longest (length f) all)
by_length f front rest is ends false short =
    ap output (sym (append-nil front)
    ∙ ap (λ l. front ++ l) (sym (ends (ltb-false longest (length front) short))) ∙ sym is)

-- what stands in the front of what can be read decides, where it is all of it or too long
pub output_front : (f front rest : List ℕ) → f ≡ front ++ rest
    → (length front ≤ longest → rest ≡ [])
    → output front ≡ output f
output_front f front rest is ends =
    by_length f front rest is ends (ltb longest (length front)) refl

-- what is printed for what was read is printed for all that could be
appended : (known left : Option (List ℕ)) (old new : Option (List ℕ)) (front : List ℕ)
    → Consumes known left front → (length front ≤ longest → IsAtEnd left)
    → Appends old new (output front)
    → IfSome known (λ file. Appends old new (output file))
appended None left old new front read ends put = tt
appended (Some file) None old new front read ends put = absurd read
appended (Some file) (Some rest) old new front read ends put =
    subst (Appends old new) (output_front file front rest read ends) put

-- the same after a write that may have failed
pub printed : {E : Type 0} (r : Result Unit E) (known left : Option (List ℕ))
    (old new : Option (List ℕ)) (front shown : List ℕ)
    → Consumes known left front → (length front ≤ longest → IsAtEnd left)
    → shown ≡ output front → OnOk r (Appends old new shown)
    → OnOk r (IfSome known (λ file. Appends old new (output file)))
printed (Err e) known left old new front shown read ends is put = tt
printed (Ok v) known left old new front shown read ends is put =
    appended known left old new front read ends (subst (Appends old new) is put)
