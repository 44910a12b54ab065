-- What a test that antt computes shows of each number below a bound. Assumes nothing.
use mathlib.Core.Path.{◌≡◌, refl, ap₂}
use mathlib.Core.Bool.{Bool, true, false, ◌&&◌}
use mathlib.Core.Logic.{⊎_elim}
use mathlib.Core.List.{List, [], ◌∷◌}
use Prim.Native.Nat.{ℕ, zero, suc, ◌<◌}
use native.Mathlib.Nat.{eq-or-lt_of_le, le_of_suc-le-suc, not-suc-le-zero}
use lib.Dec.{T, eqb, eqb→eq}
use mir.Facts.{and_yes}

-- each number below a bound passes the test
abbrev pub each : (ℕ → Bool) → ℕ → Bool
each test zero = true
each test (suc n) = test n && each test n

pub below : (test : ℕ → Bool) (end : ℕ) {n : ℕ} → T (each test end) → n < end → T (test n)
below test zero t h = absurd (not-suc-le-zero h)
below test (suc end) t h =
    ⊎_elim (λ e. rw e (and_yes (test end) (each test end) t).0)
    (below test end (and_yes (test end) (each test end) t).1)
    (eq-or-lt_of_le (le_of_suc-le-suc h))

-- two lists of the same numbers
abbrev pub alike : List ℕ → List ℕ → Bool
alike [] [] = true
alike [] (y ∷ ys) = false
alike (x ∷ xs) [] = false
alike (x ∷ xs) (y ∷ ys) = eqb x y && alike xs ys

pub alike→eq : (xs ys : List ℕ) → T (alike xs ys) → xs ≡ ys
alike→eq [] [] t = refl
alike→eq [] (y ∷ ys) t = absurd t
alike→eq (x ∷ xs) [] t = absurd t
alike→eq (x ∷ xs) (y ∷ ys) t =
    let both = and_yes (eqb x y) (alike xs ys) t in
    ap₂ ◌∷◌ (eqb→eq x y both.0) (alike→eq xs ys both.1)
