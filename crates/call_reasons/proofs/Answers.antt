-- The answers of the calls for one sentence and for sentences.
-- Assumes nothing.
use Prim.Native.Nat.{ℕ, suc, ◌+◌, ◌*◌, ◌≤◌, ◌<◌}
use mathlib.Core.Path.{◌≡◌, refl, sym, ap, ap₂, ◌∙◌}
use mathlib.Core.Bool.{Bool, cond}
use mathlib.Core.List.{List, [], ◌∷◌, ◌++◌}
use mathlib.Core.Option.{Option, none, some}
use native.Mathlib.Decide.{dec_le}
use native.Mathlib.Omega.{arith}
use borrow.Author.Tests.{lt-ltb, le-ltb}
use lib.ListN.{length, get_or, drop, length-append, length-drop}
use lib.Seq.{drop-append_seam}
use Rattle.base_fitting.specs.Fitting.{fitting, or_first}
use Rattle.base_fitting.proofs.Laws.{fit_nothing}
use Rattle.base_text.specs.Doc.{print, each}
use Rattle.base_text.specs.Wrote.{Wrote}
use Rattle.base_text.proofs.Laws.{whole}
use Rattle.file_blocks.specs.Parse.{Block, instr_total}
use Rattle.lower_reasons.specs.Lines.{Line, line_text, line_length, lines_of, lines_from, number_or}
use Rattle.lower_reasons.specs.Said.{Said, said_in_all}
use Rattle.lower_reasons.specs.Sentence.{sentence, sentence_text}
use Rattle.claim_reasons.proofs.Claims.{all_length}
use Rattle.emit_reasons.specs.declared.lines.Progress.{Progress}
use Rattle.emit_reasons.specs.Steps.{Put}
use Rattle.call_frame.specs.Frame.{Decision, refuses, numbered, cleared, refused_with, settle}
use Rattle.call_frame.proofs.Pieces.{Some, some_of}
use Rattle.call_frame.proofs.Settling.{refused_own, refused_10, handed_over}
use Rattle.call_frame.specs.declared.refusal.Refusal.{Refusal}
use Rattle.std.specs.Prelude.{Ok, Err}
use Rattle.call_reasons.specs.declared.reasons.ReasonsValues.{ReasonsValues}
use Rattle.call_frame.specs.Refusal.{answer_of}
use Rattle.call_reasons.specs.Calls.{
  made_sentence,
  fitting_lines,
  made_lines,
  if_there,
  asks_reason,
}
use Rattle.call_reasons.specs.Calls.{asks_reasons}

-- no work number is cleared
pub cleared_none : (n : ℕ) → [] ≡ cleared (0 * n) []
cleared_none n = ap (λ (m : ℕ). cleared m []) (let e : 0 ≡ 0 * n = omega arith in e)

-- an instruction that there is, and one that there is not
there : {A : Type 0} (k : ℕ) (bs : List Block) (d : Decision A) → k < instr_total bs
    → if_there k bs d ≡ d
there k bs d h = ap (λ (t : Bool). cond t d (refuses (numbered 9))) (lt-ltb _ _ h)

not_there : {A : Type 0} (k : ℕ) (bs : List Block) (d : Decision A) → instr_total bs ≤ k
    → if_there k bs d ≡ refuses (numbered 9)
not_there k bs d h = ap (λ (t : Bool). cond t d (refuses (numbered 9))) (le-ltb _ _ h)

-- lines have bytes
bytes_none : (ms : List Line) → length (print (each line_text ms)) ≡ 0 → ms ≡ []
unfolding print
bytes_none [] e = refl
bytes_none (l ∷ ms) e =
    absurd
    (omega (
      arith,
      e,
      length-append (print (line_text l)) (print (each line_text ms)),
      length-append (print (sentence l.said)) (10 ∷ []),
    ))

no_bytes : length (print (each line_text [])) ≡ 0
unfolding print
no_bytes = refl

-- where nothing fits, the text is too short for the first
over_first : (text : List ℕ) (ls : List Line) (l : Line) (others : List Line) → ls ≡ l ∷ others
    → fitting line_length (length text) (length ls) ls ≡ []
    → length text < length (print (each line_text (l ∷ [])))
unfolding print
over_first text ls l others is e =
    elim (dec_le (line_length l) (length text)) [
      | yes h ↦ absurd (omega (
        arith,
        fit_nothing line_length (length text) (suc (length others)) l others
            (ap (λ (m : List Line). fitting line_length (length text) (length m) m) (sym is) ∙ e) h,
      ))
      | no d ↦ omega (arith, length-append (print (line_text l)) [])
    ]

-- where some lines fit, they are made
fitting_some : (room : ℕ) (ls made : List Line) → fitting line_length room (length ls) ls ≡ made
    → (made ≡ [] → ⊥) → fitting_lines room ls ≡ made
unfolding fitting
fitting_some room [] made e any = absurd (any (sym e))
fitting_some room (l ∷ ls) made e any = ap (or_first l) e ∙ or-first (some_of made any)
  where
    or-first : Some made → or_first l made ≡ made
    or-first m = ap (or_first l) m.is ∙ sym m.is

-- the number of a line is that of an instruction
first_below : (k : ℕ) (os : List (Option Said)) (l : Line) (ms : List Line)
    → lines_of k os ≡ l ∷ ms → l.number < k + length os
unfolding lines_of
first_below k [] l ms e = absurd (let z : ◌≡◌ {A = ℕ} 0 1 = cc in omega arith)
first_below k (none ∷ os) l ms e = omega (arith, first_below (suc k) os l ms e)
first_below k (some s ∷ os) l ms e =
    let same : record { number = k; said = s } ≡ l = cc in
    omega (arith, ap (λ (m : Line). m.number) same)

module _ (bs : List Block) (k : ℕ) (text : List ℕ) where
  -- what the two calls decide
  abbrev one : Decision ℕ
  one = (asks_reason k).own bs (length text ∷ [])

  abbrev many : Decision ReasonsValues
  many = (asks_reasons k).own bs (length text ∷ [])

  -- there is no such instruction
  module _ (past : instr_total bs ≤ k) where
    pub reason_9 : record {
      answer = answer_of (Err Refusal.NotFound);
      work = [];
      results = text ∷ [];
    }
        ≡ settle one [] (text ∷ [])
    reason_9 = refused_own _ (not_there k bs _ past) [] (text ∷ [])

    pub reasons_9 : record {
      answer = answer_of (Err Refusal.NotFound);
      work = [];
      results = text ∷ [];
    }
        ≡ settle many [] (text ∷ [])
    reasons_9 = refused_own _ (not_there k bs _ past) [] (text ∷ [])

  module _ (here : k < instr_total bs) where
    -- what is said of it
    module _ {o : Option Said} (said : o ≡ get_or (said_in_all bs) k none) where
      sentence_is : one ≡ made_sentence o
      sentence_is = there k bs _ here ∙ ap made_sentence (sym said)

      -- its sentence does not fit
      pub reason_10 : length text < length (print (sentence_text o))
          → record {
            answer = answer_of (Err Refusal.ShortResult);
            work = [];
            results = text ∷ [];
          }
          ≡ settle one [] (text ∷ [])
      reason_10 over = refused_10 _ _ sentence_is [] text over

      -- it is in the front of the text
      pub reason_made : {n : ℕ} → n ≡ length (print (sentence_text o)) → n ≤ length text
          → {text' : List ℕ} {r : ℕ} → Wrote text 0 (sentence_text o) text' r
          → record {
            answer = answer_of (Ok n);
            work = [];
            results = text' ∷ [];
          }
          ≡ settle one [] (text ∷ [])
      reason_made is fits w =
          handed_over _ _ sentence_is [] text _ _ is (omega (arith, is, fits))
          (whole w (omega (arith, is, fits))).0

    -- the lines from it on, of which some are written
    module _ {text' : List ℕ} {r : Progress}
        (put : Put text (lines_from k bs) (instr_total bs) text' r) where
      abbrev ls : List Line
      ls = lines_from k bs

      -- what is decided, by the lines that are made
      lines_are : (made : List Line) → fitting_lines (length text) ls ≡ made
          → many ≡ made_lines (instr_total bs) ls made
      lines_are made e = there k bs _ here ∙ ap (made_lines (instr_total bs) ls) e

      -- the text, where no line is made
      kept_text : put.made ≡ [] → text' ≡ text
      unfolding print
      kept_text e =
          (whole put.wrote (omega (arith, put.bytes, put.within))).0
          ∙ ap
          (λ (ms : List Line). print (each line_text ms)
          ++ drop (length (print (each line_text ms))) text) e

      -- some are written
      pub reasons_made : (r.length ≡ 0 → ⊥)
          → record {
            answer = answer_of (Ok (record { next = r.next; length = r.length }));
            work = [];
            results = text' ∷ [];
          }
          ≡ settle many [] (text ∷ [])
      reasons_made any =
          handed_over _ _
          (lines_are put.made
          (fitting_some (length text) ls put.made put.fits
          (λ e. any (put.bytes ∙ ap (λ (ms : List Line). length (print (each line_text ms))) e
          ∙ no_bytes)))) [] text _ _
          (ap₂ (λ (m n : ℕ). record { next = m; length = n })
          (put.next ∙ ap (number_or (instr_total bs)) (sym rest_is)) put.bytes)
          (omega (arith, put.bytes, put.within))
          (whole put.wrote (omega (arith, put.bytes, put.within))).0
        where
          rest_is : drop (length put.made) ls ≡ put.rest
          rest_is =
              ap (drop (length put.made)) put.parts
              ∙ drop-append_seam put.made put.rest

      module _ (nothing : r.length ≡ 0) where
        made_none : put.made ≡ []
        made_none = bytes_none put.made (sym put.bytes ∙ nothing)

        ls_rest : ls ≡ put.rest
        ls_rest = put.parts ∙ ap (λ (ms : List Line). ms ++ put.rest) made_none

        -- the first does not fit
        pub reasons_10 : (r.next ≡ instr_total bs → ⊥)
            → record {
              answer = answer_of (Err Refusal.ShortResult);
              work = [];
              results = text' ∷ [];
            }
            ≡ settle many [] (text ∷ [])
        reasons_10 more =
            let some =
            some_of ls
            (λ e. more (put.next ∙ ap (number_or (instr_total bs)) (sym ls_rest ∙ e))) in
            ap (λ (t : List ℕ). refused_with (numbered 10) [] (t ∷ [])) (kept_text made_none)
            ∙ refused_10 _ _
            (lines_are (some.first ∷ [])
            (ap (fitting_lines (length text)) some.is
            ∙ ap (or_first some.first)
            (ap (λ (l : List Line). fitting line_length (length text) (length l) l)
            (sym some.is) ∙ put.fits ∙ made_none))) [] text
            (over_first text ls some.first some.others some.is (put.fits ∙ made_none))

        -- there is none
        pub reasons_none : r.next ≡ instr_total bs
            → record {
              answer = answer_of (Ok (record { next = r.next; length = 0 }));
              work = [];
              results = text' ∷ [];
            }
            ≡ settle many [] (text ∷ [])
        unfolding print
        reasons_none last =
            let empty : ls ≡ [] =
            no_lines put.rest ls_rest (sym put.next ∙ last) in
            handed_over _ _
            (lines_are [] (ap (fitting_lines (length text)) empty)) [] text _ _
            (ap (λ (m : ℕ). record { next = m; length = 0 })
            (last ∙ sym (ap (number_or (instr_total bs)) empty)))
            (omega arith) (kept_text made_none)
          where
            no_lines : (rest : List Line) → ls ≡ rest
                → number_or (instr_total bs) rest ≡ instr_total bs → ls ≡ []
            no_lines [] e n = e
            no_lines (l ∷ ms) e n =
                absurd
                (omega (
                  arith,
                  n,
                  first_below k (drop k (said_in_all bs)) l ms e,
                  length-drop k (said_in_all bs),
                  all_length bs,
                  here,
                ))
