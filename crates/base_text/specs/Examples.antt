-- Examples: texts that a reader knows, computed.
use Rattle.std.specs.Prelude.{◌≡◌, refl, [], ◌∷◌}
use Rattle.base_text.specs.Digits.{numeral, last_digits}
use Rattle.base_text.specs.Doc.{text, dec, hex, hex8, hex16, ◌▸◌, decimal, hexadecimal}
use Rattle.base_text.specs.Doc.{hexadecimal8, hexadecimal16, print, each}

-- zero is one digit, and the largest u64 has twenty
zero_is_one_digit : print (dec 0) ≡ print (text "0")
unfolding print decimal numeral
zero_is_one_digit = refl

largest_has_twenty : print (dec 18446744073709551615) ≡ print (text "18446744073709551615")
unfolding print decimal numeral
largest_has_twenty = refl

-- zeros in front where eight digits are asked, and none where they are not
key_has_eight : print (hex8 0x08000010) ≡ print (text "08000010")
unfolding print hexadecimal8 last_digits
key_has_eight = refl

no_zeros_in_front : print (hex 0x08000010) ≡ print (text "8000010")
unfolding print hexadecimal numeral
no_zeros_in_front = refl

hash_has_sixteen : print (hex16 0x0bf29ce484222325) ≡ print (text "0bf29ce484222325")
unfolding print hexadecimal16 last_digits
hash_has_sixteen = refl

-- a long dash is three bytes, and the rest of the text one each
dash_is_three_bytes : print (text "r0 — r7") ≡ 114 ∷ 48 ∷ 32 ∷ 226 ∷ 128 ∷ 148 ∷ 32 ∷ 114 ∷ 55 ∷ []
unfolding print
dash_is_three_bytes = refl

-- a list, piece by piece
three_keys : print (each (λ n. dec n ▸ text ", ") (8 ∷ 10 ∷ 12 ∷ [])) ≡ print (text "8, 10, 12, ")
unfolding print decimal numeral
three_keys = refl
