-- Steps: the bytes of a text with other bytes after them.
use Rattle.std.specs.Prelude.{ℕ, List, ◌++◌}
use Rattle.base_text.specs.Doc.{Doc, nothing, raw, text, dec, hex, hex8, hex16, ◌▸◌, chars}
use Rattle.base_text.specs.Doc.{decimal, hexadecimal, hexadecimal8, hexadecimal16}

-- the bytes of a doc in front of k, `print d ++ k` with the brackets to the right. Where two docs
-- are put together otherwise from the same bytes, their flat forms compute to one term
abbrev pub flat : Doc → List ℕ → List ℕ
flat nothing k = k
flat (raw s) k = s ++ k
flat (text s) k = chars s ++ k
flat (dec n) k = decimal n ++ k
flat (hex n) k = hexadecimal n ++ k
flat (hex8 n) k = hexadecimal8 n ++ k
flat (hex16 n) k = hexadecimal16 n ++ k
flat (a ▸ b) k = flat a (flat b k)
