-- A sentence is read back: the reader gives its address, kind and reason, so that different ones
-- never give the same sentence.
-- Assumes nothing.
use Prim.Native.Nat.{ℕ, zero, suc, ◌+◌, ◌*◌, ◌/◌, ◌%◌, ◌^◌, ◌<◌, ◌≤◌}
use mathlib.Core.Path.{◌≡◌, refl, sym, ap, ◌∙◌}
use mathlib.Core.List.{List, [], ◌∷◌, ◌++◌}
use mathlib.Core.Option.{some}
use native.Mathlib.Decide.{dec_lt}
use native.Mathlib.Nat.{pow-zero, pow-suc, div-lt_iff_lt-mul, div-add-mod', mod-lt}
use native.Mathlib.Omega.{arith}
use borrow.Author.Tests.{lt-ltb, le-ltb}
use lib.ListN.{length, drop, length-append}
use lib.Seq.{take_at, drop_at}
use Rattle.base_text.specs.Digits.{glyph, last_digits}
use Rattle.base_text.specs.Doc.{chars, print, hexadecimal8}
use Rattle.base_text.proofs.Numerals.{length_fixed}
use Rattle.lower_reasons.specs.declared.types.Kind.{Kind}
use Rattle.lower_reasons.specs.declared.types.Reason.{Reason}
use Rattle.lower_reasons.specs.declared.types.Reason.TheVariants.{UnpairedHalf}
use Rattle.lower_reasons.specs.declared.types.Reason.TheVariants.{ConditionalExit, BiosExit}
use Rattle.lower_reasons.specs.declared.types.Reason.TheVariants.{PcResult, RegisterShift}
use Rattle.lower_reasons.specs.declared.types.Reason.TheVariants.{ExtendOffset}
use Rattle.lower_reasons.specs.declared.types.Reason.TheVariants.{UserRegisters, EmptyList}
use Rattle.lower_reasons.specs.declared.types.Reason.TheVariants.{PcBase, PcLoaded}
use Rattle.lower_reasons.specs.declared.types.Reason.TheVariants.{NoNativeForm}
use Rattle.lower_reasons.specs.Reasons.{reasons}
use Rattle.lower_reasons.specs.Said.{Said}
use Rattle.lower_reasons.specs.Sentence.{kind_name, reason_words, sentence}
use Rattle.claim_reasons.specs.Reader.{kinds, read_one, digit_of, number_from, kind_text}
use Rattle.claim_reasons.specs.Reader.{reason_text, read_reason, read_kind, read_sentence}

-- a digit's value
digit_glyph : (d : ℕ) → d < 16 → digit_of (glyph d) ≡ d
digit_glyph d h =
    elim (dec_lt d 10) [
      | yes l ↦ rw (lt-ltb d 10 l, lt-ltb (48 + d) 58 (omega arith)) (omega arith)
      | no g ↦ rw (le-ltb d 10 (omega arith), le-ltb (87 + d) 58 (omega arith)) (omega arith)
    ]

number_snoc : (n : ℕ) (cs : List ℕ) (c : ℕ) → number_from n (cs ++ (c ∷ []))
    ≡ number_from n cs * 16 + digit_of c
number_snoc n [] c = refl
number_snoc n (d ∷ cs) c = number_snoc (n * 16 + digit_of d) cs c

-- digits spell their number
spelt : (k n : ℕ) → n < 16 ^ k → number_from 0 (last_digits 16 k n) ≡ n
unfolding last_digits
spelt zero n h = omega (arith, rw pow-zero at h)
spelt (suc k) n h =
    number_snoc 0 (last_digits 16 k (n / 16)) (glyph (n % 16))
    ∙ rw (
      spelt k (n / 16) ((div-lt_iff_lt-mul {k = 16} {x = n} {y = 16 ^ k} (omega arith)).1
          (rw pow-suc at h)),
      digit_glyph (n % 16) (mod-lt n (omega arith)),
    )
    (div-add-mod' n 16)

-- each kind is read, whatever stands behind it
kind_read : (k : Kind) (s : List ℕ) → read_one kind_text kinds (chars " " ++ (chars (kind_name k) ++
    (chars " " ++ s))) ≡ some (k, s)
kind_read Kind.Alu s = refl
kind_read Kind.Mul s = refl
kind_read Kind.MulLong s = refl
kind_read Kind.Swap s = refl
kind_read Kind.Bx s = refl
kind_read Kind.Branch s = refl
kind_read Kind.ThumbBlHigh s = refl
kind_read Kind.ThumbBlLow s = refl
kind_read Kind.Mem s = refl
kind_read Kind.BlockMem s = refl
kind_read Kind.Mrs s = refl
kind_read Kind.MsrReg s = refl
kind_read Kind.MsrImm s = refl
kind_read Kind.Swi s = refl
kind_read Kind.Undefined s = refl

-- each reason is read
reason_read : (r : Reason) → read_one reason_text reasons (chars (reason_words r)) ≡ some (r, [])
reason_read UnpairedHalf = refl
reason_read ConditionalExit = refl
reason_read BiosExit = refl
reason_read PcResult = refl
reason_read RegisterShift = refl
reason_read ExtendOffset = refl
reason_read UserRegisters = refl
reason_read EmptyList = refl
reason_read PcBase = refl
reason_read PcLoaded = refl
reason_read NoNativeForm = refl

-- the reader gives back what a sentence says
pub read_back : (s : Said) → s.addr < 2 ^ 32 → read_sentence (print (sentence s)) ≡ some s
unfolding read_sentence print hexadecimal8
read_back s h =
    let digits : List ℕ = last_digits 16 8 s.addr in
    let rest : List ℕ = chars " " ++ (chars (kind_name s.kind) ++ (chars " " ++ chars (reason_words
    s.reason))) in
    ap (λ (l : List ℕ). read_kind (number_from 0 l) (read_one kind_text kinds (drop 8
    (digits ++ rest)))) (take_at digits rest 8 (length_fixed 16 8 s.addr))
    ∙ ap (λ (l : List ℕ). read_kind (number_from 0 digits) (read_one kind_text kinds l))
    (drop_at digits rest 8 (length_fixed 16 8 s.addr))
    ∙ ap (λ (n : ℕ). read_kind n (read_one kind_text kinds rest)) (spelt 8 s.addr h)
    ∙ ap (read_kind s.addr) (kind_read s.kind (chars (reason_words s.reason)))
    ∙ ap (read_reason s.addr s.kind) (reason_read s.reason)

-- sentences that are the same say the same
pub sentence_once : (s t : Said) → s.addr < 2 ^ 32 → t.addr < 2 ^ 32 → print (sentence s) ≡ print
    (sentence t) → s ≡ t
sentence_once s t h k e = let p : some s ≡ some t = sym (read_back s h) ∙ ap read_sentence e
    ∙ read_back t k in cc

-- a sentence has the digits of its address
pub sentence_length : (s : Said) → 8 ≤ length (print (sentence s))
unfolding print hexadecimal8
sentence_length s =
    let rest : List ℕ =
    chars " " ++ (chars (kind_name s.kind) ++ (chars " " ++ chars (reason_words s.reason))) in
    omega (
      arith,
      length-append (last_digits 16 8 s.addr) rest,
      length_fixed 16 8 s.addr,
    )
