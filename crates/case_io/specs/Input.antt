-- Steps: what the reading of numbers and files promises, where the bytes of the input are known.
use Rattle.std.specs.Prelude.{ℕ, zero, suc, ◌*◌, ◌≡◌, ◌≤◌, ◌<◌, ◌+◌, Option, Result, Ok, Err}
use Rattle.std.specs.Prelude.{IfSome, List, [], ◌∷◌, ◌++◌, length, take, drop}
use Rattle.std.specs.Io.KnownBytes.{Consumes, IsAtEnd}
use Rattle.file_records.specs.Bytes.{word_at}
use Rattle.case_io.specs.declared.broken.Broken.{Broken}
use Rattle.case_io.specs.declared.broken.Broken.TheVariants.{Ended, TooLong, Failed}

-- a file that was read lies within the buffer
abbrev pub Within : List ℕ → Result ℕ Broken → Type 0
Within buffer (Ok n) = n ≤ length buffer
Within buffer (Err broken) = Unit

-- fewer bytes than so many were left, and none is now
abbrev pub EndsBefore : Option (List ℕ) → Option (List ℕ) → ℕ → Type 0
EndsBefore old new n = IfSome old (λ left. length left < n) × IsAtEnd new

-- the next bytes were there, or the input ended before the last of them
abbrev pub ReadsBytes : Option (List ℕ) → Option (List ℕ) → List ℕ → Result Unit Broken → Type 0
ReadsBytes old new bytes (Ok done) = Consumes old new bytes
ReadsBytes old new bytes (Err Ended) = EndsBefore old new (length bytes)
ReadsBytes old new bytes (Err TooLong) = ⊥
ReadsBytes old new bytes (Err (Failed e)) = Unit

-- so many numbers of four bytes each
abbrev pub words : ℕ → List ℕ → List ℕ
words zero bytes = []
words (suc n) bytes = word_at bytes 0 ∷ words n (drop 4 bytes)

-- the bytes of the numbers were next
abbrev pub ConsumesWords : Option (List ℕ) → Option (List ℕ) → List ℕ → Type 0
ConsumesWords old new numbers =
    (bytes : List ℕ) × (length bytes ≡ 4 * length numbers)
    × (numbers ≡ words (length numbers) bytes)
    × Consumes old new bytes

-- a number was read, or the input ended before its last byte
abbrev pub ReadsNumber : Option (List ℕ) → Option (List ℕ) → Result ℕ Broken → Type 0
ReadsNumber old new (Ok n) = ConsumesWords old new (n ∷ [])
ReadsNumber old new (Err Ended) = EndsBefore old new 4
ReadsNumber old new (Err TooLong) = ⊥
ReadsNumber old new (Err (Failed e)) = Unit

-- as many numbers were read, or the input ended before the last byte of the last of them
abbrev pub ReadsNumbers : Option (List ℕ) → Option (List ℕ) → List ℕ → Result Unit Broken
    → Type 0
ReadsNumbers old new numbers (Ok done) = ConsumesWords old new numbers
ReadsNumbers old new numbers (Err Ended) = EndsBefore old new (4 * length numbers)
ReadsNumbers old new numbers (Err TooLong) = ⊥
ReadsNumbers old new numbers (Err (Failed e)) = Unit

-- the same of a list of so many numbers
abbrev pub ReadsArray : ℕ → Option (List ℕ) → Option (List ℕ) → Result (List ℕ) Broken → Type 0
ReadsArray count old new (Ok numbers) = ConsumesWords old new numbers
ReadsArray count old new (Err Ended) = EndsBefore old new (4 * count)
ReadsArray count old new (Err TooLong) = ⊥
ReadsArray count old new (Err (Failed e)) = Unit

-- a file was read, its length before it; or the input ended in it; or it is longer than the buffer
abbrev pub ReadsFile : Option (List ℕ) → Option (List ℕ) → List ℕ → Result ℕ Broken → Type 0
ReadsFile old new buffer (Ok n) =
    (size : List ℕ) × (length size ≡ 4) × (n ≡ word_at size 0)
    × Consumes old new (size ++ take n buffer)
ReadsFile old new buffer (Err Ended) =
    IfSome old (λ left. length left < 4 + word_at left 0) × IsAtEnd new
ReadsFile old new buffer (Err TooLong) =
    (size : List ℕ) × (length size ≡ 4) × (length buffer < word_at size 0) × Consumes old new size
ReadsFile old new buffer (Err (Failed e)) = Unit
