-- To be believed: a reader of sentences, which gives back what one says.
use Rattle.std.specs.Prelude.{ℕ, ◌+◌, ◌-◌, ◌*◌, cond, List, [], ◌∷◌, ◌++◌, eqb, ltb, take, drop}
use Rattle.std.proofs.Math.Option.{Option, none, some}
use Rattle.base_text.specs.Doc.{chars}
use Rattle.lower_reasons.specs.declared.types.Kind.{Kind}
use Rattle.lower_reasons.specs.declared.types.Reason.{Reason}
use Rattle.lower_reasons.specs.Reasons.{reasons}
use Rattle.lower_reasons.specs.Said.{Said}
use Rattle.lower_reasons.specs.Sentence.{kind_name, reason_words}

-- the kinds, in the order of Op
abbrev pub kinds : List Kind
kinds =
    Kind.Alu ∷ Kind.Mul ∷ Kind.MulLong ∷ Kind.Swap ∷ Kind.Bx ∷ Kind.Branch ∷ Kind.ThumbBlHigh
    ∷ Kind.ThumbBlLow ∷ Kind.Mem ∷ Kind.BlockMem ∷ Kind.Mrs ∷ Kind.MsrReg ∷ Kind.MsrImm
    ∷ Kind.Swi ∷ Kind.Undefined ∷ []

-- what stands after a front; none where a text has another front
abbrev pub after : List ℕ → List ℕ → Option (List ℕ)
after [] s = some s
after (a ∷ f) [] = none
after (a ∷ f) (b ∷ s) = cond (eqb a b) (after f s) none

-- x with what stands after its text; else what was read of the others
abbrev pub read_or : {A : Type 0} → A → Option (List ℕ) → Option (A × List ℕ) → Option (A × List ℕ)
read_or x none others = others
read_or x (some s) others = some (x, s)

-- the first of some whose text is a front of s, and what stands after it
abbrev pub read_one : {A : Type 0} → (A → List ℕ) → List A → List ℕ → Option (A × List ℕ)
read_one f [] s = none
read_one f (x ∷ xs) s = read_or x (after (f x) s) (read_one f xs s)

-- the value of a hexadecimal digit
abbrev pub digit_of : ℕ → ℕ
digit_of c = cond (ltb c 58) (c - 48) (c - 87)

-- the number that digits spell after those read so far, which spell n
abbrev pub number_from : ℕ → List ℕ → ℕ
number_from n [] = n
number_from n (c ∷ cs) = number_from (n * 16 + digit_of c) cs

-- a kind as it is read, with the spaces around it
abbrev pub kind_text : Kind → List ℕ
kind_text k = chars " " ++ (chars (kind_name k) ++ chars " ")

-- a reason as it is read
abbrev pub reason_text : Reason → List ℕ
reason_text r = chars (reason_words r)

-- what a sentence says, by its address, its kind and the reason that was read, after which nothing
-- stands
abbrev pub read_reason : ℕ → Kind → Option (Reason × List ℕ) → Option Said
read_reason a k none = none
read_reason a k (some (r, [])) = some (record { addr = a; kind = k; reason = r })
read_reason a k (some (r, c ∷ s)) = none

-- what a sentence says, by its address, and the kind that was read with what stands after it
abbrev pub read_kind : ℕ → Option (Kind × List ℕ) → Option Said
read_kind a none = none
read_kind a (some (k, s)) = read_reason a k (read_one reason_text reasons s)

-- what a sentence says: eight characters, read as hexadecimal digits, a kind between spaces, and a
-- reason; nothing where kind or reason are none. What other characters than digits give is not said
unfoldable pub read_sentence : List ℕ → Option Said
read_sentence s = read_kind (number_from 0 (take 8 s)) (read_one kind_text kinds (drop 8 s))
