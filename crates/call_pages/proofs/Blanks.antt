-- Blanks, as the code writes them and as a field has them.
-- Assumes nothing.
use Prim.Native.Nat.{ℕ, zero, suc, ◌-◌, ◌≤◌}
use mathlib.Core.Path.{◌≡◌, refl, sym, ap, ◌∙◌}
use mathlib.Core.List.{List, [], ◌∷◌, ◌++◌}
use native.Mathlib.Nat.{le_of_suc-le-suc}
use native.Mathlib.Omega.{arith}
use lib.ListN.{length, take, replicate, length-append, length-replicate}
use Rattle.base_text.specs.Doc.{Doc, text, dec, hex8, ◌▸◌, hexadecimal8, print, spaces}
use Rattle.base_text.specs.Flat.{flat}
use Rattle.base_text.specs.Wrote.{index_after}
use Rattle.base_text.proofs.Lengths.{length_most}
use Rattle.base_text.proofs.Numerals.{length_fixed}
use Rattle.call_pages.specs.Page.{left_in, right_in, keys_text}

-- the first of many blanks
pub take_blanks : (k m a : ℕ) → k ≤ m → take k (replicate m a) ≡ replicate k a
take_blanks zero m a h = refl
take_blanks (suc k) zero a h = absurd (omega arith)
take_blanks (suc k) (suc m) a h =
    ap (λ (s : List ℕ). a ∷ s) (take_blanks k m a (le_of_suc-le-suc h))

pub flat_spaces : (k : ℕ) (s : List ℕ) → flat (spaces k) s ≡ replicate k 32 ++ s
flat_spaces zero s = refl
flat_spaces (suc k) s = ap (λ (t : List ℕ). 32 ∷ t) (flat_spaces k s)

pub print_spaces : (k : ℕ) → print (spaces k) ≡ replicate k 32
unfolding print
print_spaces zero = refl
print_spaces (suc k) = ap (λ (t : List ℕ). 32 ∷ t) (print_spaces k)

pub length_spaces : (k : ℕ) → length (print (spaces k)) ≡ k
length_spaces k = ap length (print_spaces k) ∙ length-replicate k 32

-- a number at the right of a field, where its digits were counted in no bytes at all
module _ (width n k : ℕ) (counted : k ≡ index_after 0 (dec n)) where
  -- so many digits
  digits : k ≡ length (print (dec n))
  digits = omega (arith, counted, length_most (dec n))

  -- they leave room
  pub right_some : flat (spaces (width - k) ▸ dec n) [] ≡ flat (right_in width (dec n)) []
  right_some = ap (λ (j : ℕ). flat (spaces (width - j) ▸ dec n) []) digits

  -- they leave none
  pub right_none : width ≤ k → flat (dec n) [] ≡ flat (right_in width (dec n)) []
  right_none full =
      let none : 0 ≡ width - length (print (dec n)) = omega (arith, digits) in
      ap (λ (j : ℕ). flat (spaces j ▸ dec n) []) none

-- a text of n characters at the left of the field of exits, and what stands after it
left_in_lem : (d rest : Doc) (n : ℕ) → length (print d) ≡ n
    → flat (d ▸ spaces (17 - n) ▸ rest) [] ≡ flat (left_in 17 d ▸ rest) []
left_in_lem d rest n h = ap (λ (j : ℕ). flat (d ▸ spaces (17 - j) ▸ rest) []) (sym h)

-- what ends a line
abbrev pub line_end : Doc
line_end = spaces 24 ▸ text "\n"

-- one key there takes 8 columns, two take 17
pub one_key : (k : ℕ)
    → flat (hex8 k ▸ spaces 33 ▸ text "\n") [] ≡ flat (left_in 17 (keys_text (k ∷ [])) ▸ line_end) []
unfolding print hexadecimal8
one_key k =
    left_in_lem (keys_text (k ∷ [])) line_end 8
    (omega (arith, length-append (hexadecimal8 k) [], length_fixed 16 8 k))

pub two_keys : (k l : ℕ)
    → flat (hex8 k ▸ text " " ▸ hex8 l ▸ line_end) []
    ≡ flat (left_in 17 (keys_text (k ∷ l ∷ [])) ▸ line_end) []
unfolding print hexadecimal8
two_keys k l =
    left_in_lem (keys_text (k ∷ l ∷ [])) line_end 17
    (omega (
      arith,
      length-append (hexadecimal8 k) (32 ∷ hexadecimal8 l ++ []),
      length-append (hexadecimal8 l) [],
      length_fixed 16 8 k,
      length_fixed 16 8 l,
    ))
