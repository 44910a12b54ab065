-- Lines that are written one after another, as long as they fit.
-- Assumes nothing.
use Prim.Native.Nat.{ℕ, suc, ◌+◌, ◌-◌, ◌≤◌, ◌<◌}
use mathlib.Core.Path.{◌≡◌, refl, sym, ap, ◌∙◌, subst}
use mathlib.Core.Bool.{Bool, true, false, cond}
use mathlib.Core.List.{List, [], ◌∷◌, ◌++◌, append_assoc}
use mathlib.Core.Option.{Option, none, some}
use native.Mathlib.Nat.{add-zero}
use native.Mathlib.Omega.{arith}
use lib.ListN.{length, length-append}
use Rattle.base_fitting.specs.Steps.{total}
use Rattle.base_fitting.proofs.Laws.{fit_more, fit_over, total_more}
use Rattle.base_text.specs.Doc.{nothing, print, each}
use Rattle.base_text.specs.Wrote.{Wrote}
use Rattle.base_text.proofs.Laws.{seq, kept, wrote_as, each_append}
use Rattle.file_instrs.specs.declared.decode.TimedInstr.{TimedInstr}
use Rattle.lower_reasons.specs.Lines.{Line, line_text, line_length, lines_of}
use Rattle.lower_reasons.specs.Said.{Said, pairs, drops_rest, said_of, nothing_of, said_each}
use Rattle.emit_sentences.specs.Steps.{line_if}
use Rattle.emit_reasons.specs.Steps.{Putting, Put, Progressed}

-- nothing has no lines
pub lines_nothing : (k : ℕ) (xs : List TimedInstr) → lines_of k (nothing_of xs) ≡ []
unfolding lines_of
lines_nothing k [] = refl
lines_nothing k (x ∷ xs) = lines_nothing (suc k) xs

-- the lines of one list and then another
pub lines_append : (k : ℕ) (os ps : List (Option Said))
    → lines_of k (os ++ ps) ≡ lines_of k os ++ lines_of (k + length os) ps
unfolding lines_of
lines_append k [] ps = ap (λ (n : ℕ). lines_of n ps) (sym (add-zero k))
lines_append k (none ∷ os) ps =
    lines_append (suc k) os ps
    ∙ ap (λ (n : ℕ). lines_of (suc k) os ++ lines_of n ps)
    (let e : suc k + length os ≡ k + suc (length os) = omega arith in e)
lines_append k (some s ∷ os) ps =
    ap (λ (ls : List Line). record { number = k; said = s } ∷ ls)
    (lines_append (suc k) os ps
    ∙ ap (λ (n : ℕ). lines_of (suc k) os ++ lines_of n ps)
    (let e : suc k + length os ≡ k + suc (length os) = omega arith in e))

-- the lengths of lines in all
pub total_lines : (ls : List Line) → total line_length ls ≡ length (print (each line_text ls))
unfolding total print
total_lines [] = refl
total_lines (l ∷ ls) =
    omega (
      arith,
      total_lines ls,
      length-append (print (line_text l)) (print (each line_text ls)),
    )

module _ {text₀ : List ℕ} {all : List Line} {text : List ℕ} {at : ℕ} where
  -- the rest by another name
  pub putting_as : {rest rest' : List Line} → rest ≡ rest' → Putting text₀ all rest text at
      → Putting text₀ all rest' text at
  putting_as e put = subst (λ (ls : List Line). Putting text₀ all ls text at) e put

  -- a line that fits is written
  line_more : {l : Line} {rest : List Line} → Putting text₀ all (l ∷ rest) text at
      → line_length l ≤ length text₀ - at → {text' : List ℕ} {r : ℕ}
      → Wrote text at (line_text l) text' r → Putting text₀ all rest text' (at + line_length l)
  unfolding print
  line_more {l} {rest} put fits {text'} {r} w =
      let more : r ≡ at + line_length l =
      omega (arith, w.next, put.wrote.small, put.within) in
      record {
        made = put.made ++ (l ∷ []);
        parts = put.parts ∙ sym (append_assoc put.made (l ∷ []) rest);
        so =
            fit_more line_length _ _ _ put.so
            (omega (arith, ap length put.parts, length-append put.made (l ∷ rest)))
            (omega (arith, put.bytes, put.within, total_lines put.made));
        wrote =
            subst (Wrote text₀ 0 (each line_text (put.made ++ (l ∷ []))) text') more
            (wrote_as (seq put.wrote w) (each_append line_text put.made (l ∷ []) []));
        bytes =
            omega (
              arith,
              total_lines (put.made ++ (l ∷ [])),
              total_more line_length put.made l,
              total_lines put.made,
              put.bytes,
            );
        within = omega (arith, put.within);
      }

  -- no line is written where nothing is said
  none_more : {rest : List Line} → Putting text₀ all rest text at → {text' : List ℕ} {r : ℕ}
      → Wrote text at nothing text' r → Putting text₀ all rest text' at
  unfolding print
  none_more put {text'} {r} w =
      let same : r ≡ at = omega (arith, w.next, put.wrote.small, put.within) in
      record {
        made = put.made;
        parts = put.parts;
        so = put.so;
        wrote =
            subst (Wrote text₀ 0 (each line_text put.made) text') same
            (wrote_as (seq put.wrote w) refl);
        bytes = put.bytes;
        within = put.within;
      }

  -- what is said of an instruction is written, if anything is
  said_more : (k : ℕ) (o : Option Said) (os : List (Option Said)) (after : List Line)
      → Putting text₀ all (lines_of k (o ∷ os) ++ after) text at → (size : ℕ)
      → size ≡ length (print (line_if o)) → size ≤ length text₀ - at → {text' : List ℕ} {r : ℕ}
      → Wrote text at (line_if o) text' r
      → Putting text₀ all (lines_of (suc k) os ++ after) text' (at + size)
  unfolding lines_of print
  said_more k none os after put size e fits {text'} w =
      subst (Putting text₀ all (lines_of (suc k) os ++ after) text')
      (let same : at ≡ at + size = omega (arith, e) in same) (none_more put w)
  said_more k (some s) os after put size e fits {text'} w =
      subst (Putting text₀ all (lines_of (suc k) os ++ after) text')
      (let same : at + line_length (record { number = k; said = s }) ≡ at + size =
      omega (arith, e) in same) (line_more put (omega (arith, e, fits)) w)

  -- the line does not fit
  said_over : (k : ℕ) (o : Option Said) (os : List (Option Said)) (after : List Line)
      → Putting text₀ all (lines_of k (o ∷ os) ++ after) text at → (size : ℕ)
      → size ≡ length (print (line_if o)) → length text₀ - at < size
      → (total : ℕ) → Put text₀ all total text (record { next = k; length = at })
  unfolding lines_of print
  said_over k none os after put size e over total = absurd (omega (arith, e))
  said_over k (some s) os after put size e over total =
      record {
        made = put.made;
        rest = record { number = k; said = s } ∷ (lines_of (suc k) os ++ after);
        parts = put.parts;
        fits =
            fit_over line_length _ _ _ put.so
            (omega (arith, e, put.bytes, total_lines put.made));
        wrote = put.wrote;
        bytes = put.bytes;
        within = put.within;
        next = refl;
      }

-- the lines go on after `end`
pub progress_on : {text₀ : List ℕ} {all after : List Line} {end : ℕ} {text : List ℕ} {at : ℕ}
    → Putting text₀ all after text at
    → Progressed text₀ all after end text (record { next = end; length = at })
progress_on put = record { on = λ e. put; over = λ ne total. absurd (ne refl) }

-- or one before it does not fit
progress_over : {text₀ : List ℕ} {all after : List Line} {end : ℕ} {text : List ℕ} {k at : ℕ}
    → k < end → ((total : ℕ) → Put text₀ all total text (record { next = k; length = at }))
    → Progressed text₀ all after end text (record { next = k; length = at })
progress_over h put = record { on = λ e. absurd (omega (arith, e)); over = λ ne total. put total }

-- where nothing is said no line is left
pub rest_nothing : {os : List (Option Said)} (xs : List TimedInstr) → os ≡ nothing_of xs → (k : ℕ)
    (after : List Line) → lines_of k os ++ after ≡ after
rest_nothing xs e k after =
    ap (λ (ps : List (Option Said)). lines_of k ps ++ after) e
    ∙ ap (λ (ls : List Line). ls ++ after) (lines_nothing k xs)

-- the same is said
pub rest_same : {os ps : List (Option Said)} → os ≡ ps → (k : ℕ) (after : List Line)
    → lines_of k os ++ after ≡ lines_of k ps ++ after
rest_same e k after = ap (λ (qs : List (Option Said)). lines_of k qs ++ after) e

-- after the last instruction no line is left
pub rest_end : (area : ℕ) {xs : List TimedInstr} → xs ≡ [] → (k : ℕ) (after : List Line)
    → lines_of k (said_each area xs) ++ after ≡ after
unfolding said_each lines_of
rest_end area e k after =
    ap (λ (l : List TimedInstr). lines_of k (said_each area l) ++ after) e

-- the lines of instructions of which the first was read
module _ (area : ℕ) {x : TimedInstr} {ys xs : List TimedInstr} (here : xs ≡ x ∷ ys) (k : ℕ)
    (after : List Line) where
  -- those of all of them, by whether it makes a pair
  rest_is : (t : Bool) → pairs x.instr ys ≡ t → lines_of k (said_each area xs) ++ after
      ≡ lines_of k
      (cond t (nothing_of (x ∷ ys))
      (said_of area x.instr ∷ cond (drops_rest area x.instr) (nothing_of ys) (said_each area ys)))
      ++ after
  unfolding said_each
  rest_is t e =
      ap (λ (l : List TimedInstr). lines_of k (said_each area l) ++ after) here
      ∙ ap
      (λ (b : Bool). lines_of k
      (cond b (nothing_of (x ∷ ys))
      (said_of area x.instr ∷ cond (drops_rest area x.instr) (nothing_of ys) (said_each area ys)))
      ++ after) e

  -- it makes one, and no line is left
  pub rest_pair : pairs x.instr ys ≡ true → lines_of k (said_each area xs) ++ after ≡ after
  rest_pair p =
      rest_is true p ∙ ap (λ (ls : List Line). ls ++ after) (lines_nothing k (x ∷ ys))

  -- it makes none
  module _ (alone : pairs x.instr ys ≡ false) {whole : List ℕ} {all : List Line}
      {text : List ℕ} {at : ℕ}
      (put : Putting whole all (lines_of k (said_each area xs) ++ after) text at) {o : Option Said}
      (told : o ≡ said_of area x.instr) {size : ℕ} (sized : size ≡ length (print (line_if o)))
    where
      -- what is said of it and of those after it
      others : List (Option Said)
      others = cond (drops_rest area x.instr) (nothing_of ys) (said_each area ys)

      size_is : size ≡ length (print (line_if (said_of area x.instr)))
      size_is = sized ∙ ap (λ (q : Option Said). length (print (line_if q))) told

      -- its line does not fit
      pub alone-over : length text - at < size → {end : ℕ} → k < end
          → Progressed whole all after end text (record { next = k; length = at })
      alone-over over h =
          progress_over h
          (said_over k (said_of area x.instr) _ after (putting_as (rest_is false alone) put) size
          size_is (omega (arith, kept put.wrote)))

      module _ (fits : size ≤ length text - at) {text' : List ℕ} {r : ℕ}
          (w : Wrote text at (line_if o) text' r) where
        next : Putting whole all (lines_of (suc k) others ++ after) text' (at + size)
        unfolding others
        next =
            said_more k (said_of area x.instr) _ after (putting_as (rest_is false alone) put)
            size size_is (omega (arith, kept put.wrote))
            (subst (λ (q : Option Said). Wrote text at (line_if q) text' r) told w)

        -- it fits, and what comes after is dropped
        pub alone-drops : drops_rest area x.instr ≡ true
            → Putting whole all after text' (at + size)
        unfolding others
        alone-drops d =
            putting_as
            (ap
            (λ (b : Bool). lines_of (suc k) (cond b (nothing_of ys) (said_each area ys)) ++ after) d
            ∙ ap (λ (ls : List Line). ls ++ after) (lines_nothing (suc k) ys)) next

        -- or is not
        pub alone-on : drops_rest area x.instr ≡ false
            → Putting whole all (lines_of (suc k) (said_each area ys) ++ after) text' (at + size)
        unfolding others
        alone-on d =
            putting_as
            (ap
            (λ (b : Bool). lines_of (suc k) (cond b (nothing_of ys) (said_each area ys)) ++ after) d)
            next
