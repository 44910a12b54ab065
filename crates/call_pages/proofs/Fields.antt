-- The fields of a line: each stands whole in its columns, and the line has its width.
-- Assumes nothing.
use Prim.Native.Nat.{ℕ, zero, suc, ◌+◌, ◌-◌, ◌/◌, ◌%◌, ◌^◌, ◌≤◌, ◌<◌}
use mathlib.Core.Path.{◌≡◌, refl, sym, ap, ap₂, ◌∙◌, subst}
use mathlib.Core.Bool.{Bool, true, false, cond, ◌||◌}
use mathlib.Core.List.{List, [], ◌∷◌, ◌++◌, flatten}
use native.Mathlib.Nat.{le_of_suc-le-suc}
use native.Mathlib.Omega.{arith}
use borrow.Author.Tests.{ne_eqb}
use lib.Dec.{eqb, ltb}
use lib.ListN.{length, get_or, take, drop, replicate, length-append}
use lib.Seq.{take_at, drop-append-add}
use Rattle.base_fitting.specs.Steps.{total}
use Rattle.base_lists.specs.Lists.{among}
use Rattle.base_lists.proofs.Counts.{flatten_append}
use Rattle.base_lists.proofs.Each.{Each}
use Rattle.base_text.specs.Digits.{glyph, last_digits}
use Rattle.base_text.specs.Doc.{Doc, dec, decimal, hexadecimal8, print, spaces}
use Rattle.base_text.proofs.Lengths.{numeral_short}
use Rattle.base_text.proofs.Numerals.{length_fixed, numeral_fixed}
use Rattle.call_pages.specs.Page.{left_in, right_in, keys_text, page_line, head_line}
use Rattle.call_pages.specs.Claims.{IsLine, columns, AtRight, AtLeft}
use Rattle.call_pages.proofs.Blanks.{print_spaces, length_spaces}

-- no character of a text ends a line
abbrev Plain : List ℕ → Type 0
Plain s = among 10 s ≡ false

plain_append : (s t : List ℕ) → Plain s → Plain t → Plain (s ++ t)
plain_append [] t p q = q
plain_append (x ∷ s) t p q = go (eqb 10 x) p (λ r. plain_append s t r q)
  where
    go : (b : Bool) → b || among 10 s ≡ false → (Plain s → Plain (s ++ t))
        → b || among 10 (s ++ t) ≡ false
    go true p f = p
    go false p f = f p

plain_flatten : (ss : List (List ℕ)) → Each Plain ss → Plain (flatten ss)
unfolding flatten
plain_flatten [] h = refl
plain_flatten (s ∷ ss) h = plain_append s (flatten ss) h.0 (plain_flatten ss h.1)

plain_blanks : (k : ℕ) → Plain (replicate k 32)
plain_blanks zero = refl
plain_blanks (suc k) = plain_blanks k

plain_spaces : (k : ℕ) → Plain (print (spaces k))
plain_spaces k = subst Plain (sym (print_spaces k)) (plain_blanks k)

plain_glyph : (d : ℕ) → Plain (glyph d ∷ [])
plain_glyph d = ap (λ (b : Bool). b || false) (go (ltb d 10))
  where
    go : (b : Bool) → eqb 10 (cond b (48 + d) (87 + d)) ≡ false
    go true = ne_eqb 10 (48 + d) (λ e. omega arith)
    go false = ne_eqb 10 (87 + d) (λ e. omega arith)

plain_digits : (b k n : ℕ) → Plain (last_digits b k n)
unfolding last_digits
plain_digits b zero n = refl
plain_digits b (suc k) n =
    plain_append (last_digits b k (n / b)) (glyph (n % b) ∷ []) (plain_digits b k (n / b))
    (plain_glyph (n % b))

plain_decimal : (n : ℕ) → Plain (decimal n)
unfolding decimal
plain_decimal n = subst Plain (sym (numeral_fixed 10 20 n)) (plain_digits 10 _ n)

plain_hex8 : (n : ℕ) → Plain (hexadecimal8 n)
unfolding hexadecimal8
plain_hex8 n = plain_digits 16 8 n

plain_keys : (ks : List ℕ) → length ks ≤ 2 → Plain (print (keys_text ks))
unfolding print
plain_keys [] h = refl
plain_keys (k ∷ []) h = plain_append (hexadecimal8 k) [] (plain_hex8 k) refl
plain_keys (k ∷ l ∷ []) h =
    plain_append (hexadecimal8 k) (32 ∷ hexadecimal8 l ++ []) (plain_hex8 k)
    (plain_append (hexadecimal8 l) [] (plain_hex8 l) refl)
plain_keys (k ∷ l ∷ m ∷ ks) h = absurd (omega arith)

plain_right : (width n : ℕ) → Plain (print (right_in width (dec n)))
unfolding print
plain_right width n =
    plain_append (print (spaces (width - length (decimal n)))) (decimal n)
    (plain_spaces (width - length (decimal n))) (plain_decimal n)

plain_left : (width : ℕ) (d : Doc) → Plain (print d) → Plain (print (left_in width d))
unfolding print
plain_left width d h =
    plain_append (print d) (print (spaces (width - length (print d)))) h
    (plain_spaces (width - length (print d)))

-- the widths of fields
length_hex8 : (n : ℕ) → length (hexadecimal8 n) ≡ 8
unfolding hexadecimal8
length_hex8 n = length_fixed 16 8 n

short : (n k : ℕ) → n < 10 ^ suc k → length (decimal n) ≤ suc k
unfolding decimal
short n k h = numeral_short 10 20 k n (omega arith) h

right_width : (width n : ℕ) → length (decimal n) ≤ width
    → length (print (right_in width (dec n))) ≡ width
unfolding print
right_width width n h =
    omega (
      arith,
      length-append (print (spaces (width - length (decimal n)))) (decimal n),
      length_spaces (width - length (decimal n)),
    )

left_width : (width : ℕ) (d : Doc) → length (print d) ≤ width
    → length (print (left_in width d)) ≡ width
unfolding print
left_width width d h =
    omega (
      arith,
      length-append (print d) (print (spaces (width - length (print d)))),
      length_spaces (width - length (print d)),
    )

keys_width : (ks : List ℕ) → length ks ≤ 2 → length (print (keys_text ks)) ≤ 17
unfolding print
keys_width [] h = omega arith
keys_width (k ∷ []) h = omega (arith, length-append (hexadecimal8 k) [], length_hex8 k)
keys_width (k ∷ l ∷ []) h =
    omega (
      arith,
      length-append (hexadecimal8 k) (32 ∷ hexadecimal8 l ++ []),
      length-append (hexadecimal8 l) [],
      length_hex8 k,
      length_hex8 l,
    )
keys_width (k ∷ l ∷ m ∷ ks) h = absurd (omega arith)

-- fields one after another
flatten_length : (ss : List (List ℕ)) → length (flatten ss) ≡ total length ss
unfolding flatten total
flatten_length [] = refl
flatten_length (s ∷ ss) = omega (arith, length-append s (flatten ss), flatten_length ss)

-- the columns of field k are its text
field_at : (ss : List (List ℕ)) (k i width : ℕ) → k < length ss → i ≡ total length (take k ss)
    → width ≡ length (get_or ss k []) → take width (drop i (flatten ss)) ≡ get_or ss k []
unfolding flatten total
field_at [] k i width h e w = absurd (omega arith)
field_at (s ∷ ss) zero i width h e w =
    ap₂ (λ (j m : ℕ). take m (drop j (s ++ flatten ss))) e w
    ∙ take_at s (flatten ss) (length s) refl
field_at (s ∷ ss) (suc k) i width h e w =
    ap (λ (j : ℕ). take width (drop j (s ++ flatten ss))) e
    ∙ ap (take width) (drop-append-add s (flatten ss) (total length (take k ss)))
    ∙ field_at ss k (total length (take k ss)) width (le_of_suc-le-suc h) refl w

-- a number at the right of its field, and a text at the left of its own
pub at_right : (width n : ℕ) → AtRight (decimal n) (print (right_in width (dec n)))
unfolding print
at_right width n =
    record {
      blanks = width - length (decimal n);
      same = ap (λ (s : List ℕ). s ++ decimal n) (print_spaces (width - length (decimal n)));
    }

pub at_left : (width : ℕ) (d : Doc) → AtLeft (print d) (print (left_in width d))
unfolding print
at_left width d =
    record {
      blanks = width - length (print d);
      same = ap (λ (s : List ℕ). print d ++ s) (print_spaces (width - length (print d)));
    }

-- the head of a page
module _ (k : ℕ) (small : length (decimal k) ≤ 64) where
  pub head_line_lem : IsLine (print (head_line k))
  unfolding print
  head_line_lem =
      record {
        characters = print (right_in 64 (dec k));
        width = right_width 64 k small;
        unbroken = plain_right 64 k;
        ended = refl;
      }

  pub head_number : AtRight (decimal k) (columns 1 64 (print (head_line k)))
  unfolding print
  head_number =
      subst (AtRight (decimal k))
      (sym (take_at (print (right_in 64 (dec k))) (10 ∷ []) 64 (right_width 64 k small)))
      (at_right 64 k)

-- the line of a block
module _ (key group n : ℕ) (keys : List ℕ) (g : group < 1000000) (c : n < 1000000)
    (few : length keys ≤ 2) where
  abbrev fields : List (List ℕ)
  fields =
      hexadecimal8 key
      ∷ (32 ∷ [])
      ∷ print (right_in 6 (dec group))
      ∷ (32 ∷ [])
      ∷ print (right_in 6 (dec n))
      ∷ (32 ∷ [])
      ∷ print (left_in 17 (keys_text keys))
      ∷ print (spaces 24)
      ∷ []

  -- with its end
  abbrev ended : List (List ℕ)
  ended = fields ++ ((10 ∷ []) ∷ [])

  line_is : print (page_line key group n keys) ≡ flatten ended
  unfolding print flatten
  line_is = refl

  group_width : length (print (right_in 6 (dec group))) ≡ 6
  group_width = right_width 6 group (short group 5 (omega arith))

  count_width : length (print (right_in 6 (dec n))) ≡ 6
  count_width = right_width 6 n (short n 5 (omega arith))

  exits_width : length (print (left_in 17 (keys_text keys))) ≡ 17
  exits_width = left_width 17 (keys_text keys) (keys_width keys few)

  pub line_line : IsLine (print (page_line key group n keys))
  unfolding print flatten total
  line_line =
      record {
        characters = flatten fields;
        width =
            omega (
              arith,
              flatten_length fields,
              length_hex8 key,
              group_width,
              count_width,
              exits_width,
              length_spaces 24,
            );
        unbroken =
            plain_flatten fields (
              plain_hex8 key,
              (
                refl,
                (
                  plain_right 6 group,
                  (
                    refl,
                    (
                      plain_right 6 n,
                      (
                        refl,
                        (
                          plain_left 17 (keys_text keys) (plain_keys keys few),
                          (plain_spaces 24, tt),
                        ),
                      ),
                    ),
                  ),
                ),
              ),
            );
        ended = line_is ∙ flatten_append fields ((10 ∷ []) ∷ []);
      }

  -- some columns are those of a field
  column : (k first last : ℕ) → k < 9 → first - 1 ≡ total length (take k ended)
      → suc last - first ≡ length (get_or ended k [])
      → columns first last (print (page_line key group n keys)) ≡ get_or ended k []
  column k first last h e w =
      ap (columns first last) line_is ∙ field_at ended k (first - 1) (suc last - first) h e w

  pub key_at_lem : columns 1 8 (print (page_line key group n keys)) ≡ hexadecimal8 key
  unfolding total
  key_at_lem = column 0 1 8 (omega arith) refl (sym (length_hex8 key))

  pub gap_1 : columns 9 9 (print (page_line key group n keys)) ≡ 32 ∷ []
  unfolding total
  gap_1 = column 1 9 9 (omega arith) (omega (arith, length_hex8 key)) refl

  pub group_at : columns 10 15 (print (page_line key group n keys)) ≡ print (right_in 6 (dec group))
  unfolding total
  group_at = column 2 10 15 (omega arith) (omega (arith, length_hex8 key)) (sym group_width)

  pub gap_2 : columns 16 16 (print (page_line key group n keys)) ≡ 32 ∷ []
  unfolding total
  gap_2 = column 3 16 16 (omega arith) (omega (arith, length_hex8 key, group_width)) refl

  pub count_at : columns 17 22 (print (page_line key group n keys)) ≡ print (right_in 6 (dec n))
  unfolding total
  count_at =
      column 4 17 22 (omega arith) (omega (arith, length_hex8 key, group_width)) (sym count_width)

  pub gap_3 : columns 23 23 (print (page_line key group n keys)) ≡ 32 ∷ []
  unfolding total
  gap_3 =
      column 5 23 23 (omega arith) (omega (arith, length_hex8 key, group_width, count_width)) refl

  pub exits_at : columns 24 40 (print (page_line key group n keys))
      ≡ print (left_in 17 (keys_text keys))
  unfolding total
  exits_at =
      column 6 24 40 (omega arith) (omega (arith, length_hex8 key, group_width, count_width))
      (sym exits_width)

  pub blanks_at : columns 41 64 (print (page_line key group n keys)) ≡ print (spaces 24)
  unfolding total
  blanks_at =
      column 7 41 64 (omega arith)
      (omega (arith, length_hex8 key, group_width, count_width, exits_width))
      (sym (length_spaces 24))
