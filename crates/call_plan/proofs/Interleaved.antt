-- The plan's rows, written one block after the other.
-- Assumes nothing.
use mathlib.Core.Path.{◌≡◌, refl, sym, ap, ap₂, ◌∙◌}
use mathlib.Core.List.{List, [], ◌∷◌, ◌++◌, append_assoc}
use Prim.Native.Nat.{ℕ, ◌+◌, ◌*◌, ◌≤◌, ◌<◌}
use native.Mathlib.Omega.{arith}
use native.Mathlib.Numerals.{add-one}
use lib.ListN.{length, get_or, set, take, drop, length-drop, length-append}
use lib.Seq.{take-suc, length-take-le, set_at, get_or-drop, drop-drop}
use Rattle.base_lists.specs.Interleave.{interleave}

length_interleave : (xs ys : List ℕ) → length xs ≡ length ys
    → length (interleave xs ys) ≡ 2 * length xs
unfolding interleave
length_interleave [] [] e = refl
length_interleave [] (y ∷ ys) e = absurd (omega arith)
length_interleave (x ∷ xs) [] e = absurd (omega arith)
length_interleave (x ∷ xs) (y ∷ ys) e = omega (arith, length_interleave xs ys (omega arith))

interleave_last : (xs ys : List ℕ) (x y : ℕ) → length xs ≡ length ys
    → interleave (xs ++ (x ∷ [])) (ys ++ (y ∷ [])) ≡ interleave xs ys ++ (x ∷ y ∷ [])
unfolding interleave
interleave_last [] [] x y e = refl
interleave_last [] (b ∷ ys) x y e = absurd (omega arith)
interleave_last (a ∷ xs) [] x y e = absurd (omega arith)
interleave_last (a ∷ xs) (b ∷ ys) x y e =
    ap (λ (l : List ℕ). a ∷ b ∷ l) (interleave_last xs ys x y (omega arith))

-- two stores after a front
two_stores : (a l : List ℕ) (k x y : ℕ) → length a ≡ k → k + 2 ≤ k + length l
    → set (set (a ++ l) k x) (k + 1) y ≡ a ++ (x ∷ y ∷ drop 2 l)
two_stores a [] k x y e h = absurd (omega arith)
two_stores a (u ∷ []) k x y e h = absurd (omega arith)
two_stores a (u ∷ v ∷ l) k x y e h =
    ap (λ (m : List ℕ). set m (k + 1) y)
    (set_at a u (v ∷ l) x k e ∙ sym (append_assoc a (x ∷ []) (v ∷ l)))
    ∙ set_at (a ++ (x ∷ [])) v l y (k + 1) (length-append a (x ∷ []) ∙ ap (λ (m : ℕ). m + 1) e)
    ∙ append_assoc a (x ∷ []) (y ∷ l)

-- the plan with the rows of the first p of n blocks
abbrev pub rows_to : List ℕ → List ℕ → ℕ → ℕ → List ℕ
rows_to w plan₀ n p = interleave (take p (drop (2 * n) w)) (take p w) ++ drop (2 * p) plan₀

pub rows_none : (w plan₀ : List ℕ) (n : ℕ) → plan₀ ≡ rows_to w plan₀ n 0
unfolding interleave
rows_none w plan₀ n = refl

module _ (w plan₀ : List ℕ) (n : ℕ) (room : 3 * n ≤ length w) (space : 2 * n ≤ length plan₀) where
  module _ (p : ℕ) (h : p < n) where
    long₁ : length (take p (drop (2 * n) w)) ≡ p
    long₁ = length-take-le p (drop (2 * n) w) (simp length-drop (omega arith))

    long₂ : length (take p w) ≡ p
    long₂ = length-take-le p w (omega arith)

    abbrev front : List ℕ
    front = interleave (take p (drop (2 * n) w)) (take p w)

    front_long : length front ≡ 2 * p
    front_long = length_interleave (take p (drop (2 * n) w)) (take p w) (long₁ ∙ sym long₂)
        ∙ ap (λ (m : ℕ). 2 * m) long₁

    number_more : take (p + 1) (drop (2 * n) w)
        ≡ take p (drop (2 * n) w) ++ (get_or w (2 * n + p) 0 ∷ [])
    number_more =
        ap (λ (m : ℕ). take m (drop (2 * n) w)) (add-one p)
        ∙ take-suc (drop (2 * n) w) p 0 (simp length-drop (omega arith))
        ∙ ap (λ (x : ℕ). take p (drop (2 * n) w) ++ (x ∷ [])) (get_or-drop (2 * n) w p 0)

    block_more : take (p + 1) w ≡ take p w ++ (get_or w p 0 ∷ [])
    block_more = ap (λ (m : ℕ). take m w) (add-one p) ∙ take-suc w p 0 (omega arith)

    front_more : interleave (take (p + 1) (drop (2 * n) w)) (take (p + 1) w)
        ≡ front ++ (get_or w (2 * n + p) 0 ∷ get_or w p 0 ∷ [])
    front_more = ap₂ interleave number_more block_more
        ∙ interleave_last (take p (drop (2 * n) w)) (take p w) _ _ (long₁ ∙ sym long₂)

    tail_more : drop (2 * (p + 1)) plan₀ ≡ drop 2 (drop (2 * p) plan₀)
    tail_more =
        ap (λ (m : ℕ). drop m plan₀) (let twice : 2 * (p + 1) ≡ 2 * p + 2 = omega arith in twice)
        ∙ sym (drop-drop 2 (2 * p) plan₀)

    pub rows_more : set (set (rows_to w plan₀ n p) (2 * p) (get_or w (2 * n + p) 0)) (2 * p + 1)
        (get_or w p 0) ≡ rows_to w plan₀ n (p + 1)
    rows_more =
        two_stores front (drop (2 * p) plan₀) (2 * p) (get_or w (2 * n + p) 0) (get_or w p 0) front_long
        (simp length-drop (omega arith))
        ∙ sym (append_assoc front (get_or w (2 * n + p) 0 ∷ get_or w p 0 ∷ [])
        (drop 2 (drop (2 * p) plan₀)))
        ∙ ap₂ (λ (a b : List ℕ). a ++ b) (sym front_more) (sym tail_more)
