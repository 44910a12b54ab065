-- What the bytes of some numbers say after one more number.
use Rattle.std.proofs.Common.{◌≡◌, ℕ, zero, suc, ◌*◌, Option, List, [], ◌∷◌, ◌++◌, length, refl}
use Rattle.std.proofs.Common.{sym, ap, ap₂, ◌∙◌, arith, length-append}
use Rattle.std.proofs.KnownBytes.{Consumes-trans}
use Rattle.file_records.specs.Bytes.{word_at}
use Rattle.case_io.specs.Input.{words, ConsumesWords}

-- one more number, from the bytes that come after
words_more : (k : ℕ) (bs cs : List ℕ) → length bs ≡ 4 * k
    → words (suc k) (bs ++ cs) ≡ words k bs ++ (word_at cs 0 ∷ [])
words_more zero [] cs h = refl
words_more zero (a ∷ bs) cs h = absurd (omega (arith, h))
words_more (suc k) [] cs h = absurd (omega (arith, h))
words_more (suc k) (a ∷ []) cs h = absurd (omega (arith, h))
words_more (suc k) (a ∷ (b ∷ [])) cs h = absurd (omega (arith, h))
words_more (suc k) (a ∷ (b ∷ (c ∷ []))) cs h = absurd (omega (arith, h))
words_more (suc k) (a ∷ (b ∷ (c ∷ (d ∷ bs)))) cs h =
    ap (λ l. word_at (a ∷ b ∷ c ∷ d ∷ []) 0 ∷ l) (words_more k bs cs (omega (arith, h)))

-- numbers that were read, and the next one
pub consumes_next : (a b c : Option (List ℕ)) (ns : List ℕ) (n : ℕ)
    → ConsumesWords a b ns → ConsumesWords b c (n ∷ []) → ConsumesWords a c (ns ++ n ∷ [])
consumes_next a b c ns n p q =
    let bs = p.0 in
    let cs = q.0 in
    let more : suc (length ns) ≡ length (ns ++ n ∷ []) =
    omega (arith, length-append ns (n ∷ [])) in (
      bs ++ cs,
      omega (arith, length-append bs cs, length-append ns (n ∷ []), p.1, q.1),
      ap₂ (λ (l m : List ℕ). l ++ m) p.2 q.2
          ∙ sym (words_more (length ns) bs cs p.1)
          ∙ ap (λ k. words k (bs ++ cs)) more,
      Consumes-trans _ _ _ _ _ p.3 q.3,
    )
