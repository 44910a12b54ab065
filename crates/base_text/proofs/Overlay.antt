-- The laws of `overlay`.
use mathlib.Core.Path.{◌≡◌, refl, sym, ap, ◌∙◌}
use Prim.Native.Nat.{ℕ, zero, suc, ◌+◌, ◌≤◌, ◌<◌, min}
use native.Mathlib.Nat.{zero-add, suc-add, not-suc-le-zero, le_of_suc-le-suc, min-eq_left}
use native.Mathlib.Nat.{min-eq_right}
use native.Mathlib.Omega.{arith}
use native.Mathlib.Decide.{dec_le}
use mathlib.Core.List.{List, [], ◌∷◌, ◌++◌}
use lib.ListN.{length, take, drop, set, get_or}
use lib.Seq.{take-suc, length-take-le}
use Rattle.base_text.specs.Wrote.{overlay}

pub overlay_none : (o : List ℕ) (at : ℕ) → overlay o at [] ≡ o
unfolding overlay
overlay_none [] at = refl
overlay_none (x ∷ xs) zero = refl
overlay_none (x ∷ xs) (suc at) = ap (λ (r : List ℕ). x ∷ r) (overlay_none xs at)

pub length_overlay : (o : List ℕ) (at : ℕ) (s : List ℕ) → length (overlay o at s) ≡ length o
unfolding overlay
length_overlay [] at s = refl
length_overlay (x ∷ xs) zero [] = refl
length_overlay (x ∷ xs) zero (a ∷ s) = ap suc (length_overlay xs zero s)
length_overlay (x ∷ xs) (suc at) s = ap suc (length_overlay xs at s)

-- two texts, one after the other
pub overlay_append : (o : List ℕ) (at : ℕ) (s t : List ℕ)
    → overlay (overlay o at s) (at + length s) t ≡ overlay o at (s ++ t)
unfolding overlay
overlay_append [] at s t = refl
overlay_append (x ∷ xs) zero [] t = refl
overlay_append (x ∷ xs) zero (a ∷ s) t =
    ap (λ (k : ℕ). overlay (a ∷ overlay xs zero s) k t) (zero-add (suc (length s)))
    ∙ ap (λ (r : List ℕ). a ∷ r)
    (ap (λ (k : ℕ). overlay (overlay xs zero s) k t) (sym (zero-add (length s)))
    ∙ overlay_append xs zero s t)
overlay_append (x ∷ xs) (suc at) s t =
    ap (λ (k : ℕ). overlay (x ∷ overlay xs at s) k t) (suc-add at (length s))
    ∙ ap (λ (r : List ℕ). x ∷ r) (overlay_append xs at s t)

-- past the end nothing changes
pub overlay_past : (o : List ℕ) (at : ℕ) (s : List ℕ) → length o ≤ at → overlay o at s ≡ o
unfolding overlay
overlay_past [] at s h = refl
overlay_past (x ∷ xs) zero s h = absurd (not-suc-le-zero h)
overlay_past (x ∷ xs) (suc at) s h =
    ap (λ (r : List ℕ). x ∷ r) (overlay_past xs at s (le_of_suc-le-suc h))

-- a text that fits at the front
pub overlay_front : (o s : List ℕ) → length s ≤ length o → overlay o 0 s ≡ s ++ drop (length s) o
unfolding overlay
overlay_front [] [] h = refl
overlay_front [] (a ∷ s) h = absurd (not-suc-le-zero h)
overlay_front (x ∷ xs) [] h = refl
overlay_front (x ∷ xs) (a ∷ s) h =
    ap (λ (r : List ℕ). a ∷ r) (overlay_front xs s (le_of_suc-le-suc h))

-- at an index is at the front of the part from there
pub overlay_part : (o : List ℕ) (at : ℕ) (s : List ℕ)
    → overlay o at s ≡ take at o ++ overlay (drop at o) 0 s
unfolding overlay
overlay_part [] zero s = refl
overlay_part [] (suc at) s = refl
overlay_part (x ∷ xs) zero s = refl
overlay_part (x ∷ xs) (suc at) s = ap (λ (r : List ℕ). x ∷ r) (overlay_part xs at s)

-- an index past a bound may stop there, where the bound is no less than the length
pub overlay_stop : (o : List ℕ) (at k : ℕ) (s : List ℕ) → length o ≤ k
    → overlay o (min at k) s ≡ overlay o at s
overlay_stop o at k s h =
    elim (dec_le at k) [
      | yes l ↦ ap (λ (n : ℕ). overlay o n s) (min-eq_left l)
      | no f ↦
          let l : k ≤ at = omega arith in
          ap (λ (n : ℕ). overlay o n s) (min-eq_right l) ∙ overlay_past o k s h
          ∙ sym (overlay_past o at s (omega arith))
    ]

-- one byte is a store
pub overlay_one : (o : List ℕ) (at b : ℕ) → overlay o at (b ∷ []) ≡ set o at b
unfolding overlay
overlay_one [] at b = refl
overlay_one (x ∷ xs) zero b = ap (λ (r : List ℕ). b ∷ r) (overlay_none xs zero)
overlay_one (x ∷ xs) (suc at) b = ap (λ (r : List ℕ). x ∷ r) (overlay_one xs at b)

-- the last byte of a text may be stored first
pub overlay_last : (o s : List ℕ) (b : ℕ)
    → overlay o 0 (s ++ (b ∷ [])) ≡ overlay (set o (length s) b) 0 s
unfolding overlay
overlay_last [] s b = refl
overlay_last (x ∷ xs) [] b = ap (λ (r : List ℕ). b ∷ r) (overlay_none xs zero)
overlay_last (x ∷ xs) (a ∷ s) b = ap (λ (r : List ℕ). a ∷ r) (overlay_last xs s b)

-- the first byte of a text may be stored by itself
pub overlay_first : (o : List ℕ) (at b : ℕ) (s : List ℕ)
    → overlay (set o at b) (suc at) s ≡ overlay o at (b ∷ s)
unfolding overlay
overlay_first [] at b s = refl
overlay_first (x ∷ xs) zero b s = refl
overlay_first (x ∷ xs) (suc at) b s = ap (λ (r : List ℕ). x ∷ r) (overlay_first xs at b s)

-- a byte that the text is laid over may be any
pub overlay_over : (o : List ℕ) (b c : ℕ) (s : List ℕ)
    → overlay (set o 0 b) 0 (c ∷ s) ≡ overlay o 0 (c ∷ s)
unfolding overlay
overlay_over [] b c s = refl
overlay_over (x ∷ xs) b c s = refl

-- a byte more of s
pub overlay_more : (o : List ℕ) (at : ℕ) (s : List ℕ) (i : ℕ) → i < length s
    → set (overlay o at (take i s)) (at + i) (get_or s i 0) ≡ overlay o at (take (suc i) s)
overlay_more o at s i h =
    sym (overlay_one (overlay o at (take i s)) (at + i) (get_or s i 0))
    ∙ ap (λ (k : ℕ). overlay (overlay o at (take i s)) (at + k) (get_or s i 0 ∷ []))
    (sym (length-take-le i s (omega arith)))
    ∙ overlay_append o at (take i s) (get_or s i 0 ∷ [])
    ∙ ap (overlay o at) (sym (take-suc s i 0 h))
