-- To be believed: a text put together from pieces, and its bytes.
use Rattle.std.specs.Prelude.{ℕ, zero, suc, ◌+◌, ◌/◌, ◌%◌, cond, List, [], ◌∷◌, ◌++◌, ltb}
use Prim.Native.Char.{code}
use Prim.Native.String.{String, [] as ε, ◌∷◌ as ◌∷ˢ◌}
use Rattle.base_text.specs.Digits.{numeral, last_digits}

infixr 60 ◌▸◌
-- a text, as the pieces that it is put together from
pub data Doc : Type 0 where
  nothing : Doc
  -- bytes as they are
  raw : List ℕ → Doc
  -- a text in UTF-8
  text : String → Doc
  -- Rust's {n} and {n:x} of a u64, {n:08x} of a u32, {n:016x} of a u64
  dec : ℕ → Doc
  hex : ℕ → Doc
  hex8 : ℕ → Doc
  hex16 : ℕ → Doc
  -- one and then the other
  ◌▸◌ : Doc → Doc → Doc

-- the bytes of one character in UTF-8
abbrev pub utf8 : ℕ → List ℕ
utf8 n =
    cond (ltb n 0x80) (n ∷ [])
    (cond (ltb n 0x800) ((0xc0 + n / 0x40) ∷ (0x80 + n % 0x40) ∷ [])
    (cond (ltb n 0x10000) ((0xe0 + n / 0x1000) ∷ (0x80 + n / 0x40 % 0x40) ∷ (0x80 + n % 0x40) ∷ [])
    ((0xf0 + n / 0x40000) ∷ (0x80 + n / 0x1000 % 0x40) ∷ (0x80 + n / 0x40 % 0x40)
    ∷ (0x80 + n % 0x40) ∷ [])))

-- the bytes of a text in UTF-8
abbrev pub chars : String → List ℕ
chars ε = []
chars (c ∷ˢ s) = utf8 (code c) ++ chars s

-- a number in decimal, without zeros in front; 20 digits hold a u64. It and the next three do not
-- unfold by themselves, so that a proof about a text carries a number on as one piece
unfoldable pub decimal : ℕ → List ℕ
decimal n = numeral 10 20 n

-- a number in hexadecimal, without zeros in front; 16 digits hold a u64
unfoldable pub hexadecimal : ℕ → List ℕ
hexadecimal n = numeral 16 16 n

-- the last 8 hexadecimal digits of a number, with zeros in front
unfoldable pub hexadecimal8 : ℕ → List ℕ
hexadecimal8 n = last_digits 16 8 n

-- the last 16 hexadecimal digits of a number, with zeros in front
unfoldable pub hexadecimal16 : ℕ → List ℕ
hexadecimal16 n = last_digits 16 16 n

-- the bytes of a doc
unfoldable pub print : Doc → List ℕ
print nothing = []
print (raw s) = s
print (text s) = chars s
print (dec n) = decimal n
print (hex n) = hexadecimal n
print (hex8 n) = hexadecimal8 n
print (hex16 n) = hexadecimal16 n
print (a ▸ b) = print a ++ print b

-- f of each of xs, in order
abbrev pub each : {A : Type 0} → (A → Doc) → List A → Doc
each f [] = nothing
each f (x ∷ xs) = f x ▸ each f xs

-- so many spaces
abbrev pub spaces : ℕ → Doc
spaces zero = nothing
spaces (suc n) = text " " ▸ spaces n
