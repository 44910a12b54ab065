-- The lines of a file from an instruction on: before the first block, after one, and after the
-- last.
-- Assumes nothing.
use Prim.Native.Nat.{ℕ, zero, suc, ◌+◌, ◌≤◌}
use mathlib.Core.Path.{◌≡◌, refl, sym, ap, ap₂, ◌∙◌, subst}
use mathlib.Core.List.{List, [], ◌++◌}
use mathlib.Core.Option.{Option}
use native.Mathlib.Nat.{add-zero}
use native.Mathlib.Omega.{arith}
use lib.ListN.{length, drop}
use lib.Seq.{drop-drop}
use Rattle.base_fitting.specs.Steps.{FitSoFar}
use Rattle.base_fitting.proofs.Laws.{fit_none, fit_all}
use Rattle.base_text.specs.Doc.{print}
use Rattle.base_text.specs.Wrote.{max_usize}
use Rattle.base_text.proofs.Laws.{none}
use Rattle.file_records.specs.BlockRecord.{count_sum}
use Rattle.file_records.specs.Trailer.{block_count}
use Rattle.file_blocks.specs.declared.read.BlockRecord.{BlockRecord}
use Rattle.file_blocks.specs.Parse.{Block, blocks_of, instr_total, Accepted}
use Rattle.file_blocks.specs.Read.{IsBlock}
use Rattle.lower_reasons.specs.Lines.{Line, line_length, lines_of, lines_from}
use Rattle.lower_reasons.specs.Said.{Said, said_in_all}
use Rattle.emit_reasons.specs.declared.lines.Progress.{Progress}
use Rattle.emit_reasons.specs.Steps.{Putting, Put}
use Rattle.call_reasons.specs.Steps.{StandsIn}
use Rattle.call_reasons.proofs.Rest.{rest_from, rest_none, rest_drop, total_is}

-- before the first block nothing is written
pub putting_start : {f : List ℕ} {i first index : ℕ} → StandsIn f i first index → (text : List ℕ)
    → length text ≤ max_usize
    → Putting text (lines_from (first + index) (blocks_of f))
    (lines_of (first + index) (drop index (rest_from f i))) text 0
unfolding print
putting_start {f} {i} {first} {index} stands text small =
    let all : List Line = lines_from (first + index) (blocks_of f) in
    let same : all ≡ lines_of (first + index) (drop index (rest_from f i)) =
    ap (lines_of (first + index))
    (sym (drop-drop index first (said_in_all (blocks_of f)))
    ∙ ap (drop index)
    (ap (λ (n : ℕ). drop n (said_in_all (blocks_of f))) stands.starts
    ∙ rest_drop f stands.accepted i (omega (arith, stands.inside)))) in
    record {
      made = [];
      parts = same;
      so =
          subst (FitSoFar line_length (length text) (length all) all []) same
          (fit_none line_length _ _ _);
      wrote = none small (omega arith);
      bytes = refl;
      within = omega arith;
    }

-- after a block come the lines of the next
pub lines_next : {f : List ℕ} {i : ℕ} {r : BlockRecord} {first : ℕ} → IsBlock f i r first
    → lines_of (first + r.count) (rest_from f (suc i))
    ≡ lines_of (first + r.count + 0) (drop 0 (rest_from f (i + 1)))
lines_next {f} {i} {r} {first} is =
    ap₂ (λ (n j : ℕ). lines_of n (rest_from f j)) (sym (add-zero (first + r.count)))
    (let e : suc i ≡ i + 1 = omega arith in e)

drop_nil : {A : Type 0} (n : ℕ) → drop {A = A} n [] ≡ []
drop_nil zero = refl
drop_nil (suc n) = refl

-- after the last block all lines are written
pub put_end : (f : List ℕ) → Accepted f → (b : ℕ) → b ≡ block_count f → (k skip next : ℕ)
    → next ≡ count_sum f b → {text₀ text : List ℕ} {at : ℕ}
    → Putting text₀ (lines_from k (blocks_of f)) (lines_of (next + skip) (drop skip (rest_from f b)))
    text at
    → Put text₀ (lines_from k (blocks_of f)) (instr_total (blocks_of f)) text
    (record { next = next; length = at })
unfolding lines_of
put_end f ok b last k skip next starts {text₀} put =
    let rest : lines_of (next + skip) (drop skip (rest_from f b)) ≡ [] =
    ap (λ (os : List (Option Said)). lines_of (next + skip) (drop skip os))
    (rest_none f b (omega (arith, last)))
    ∙ ap (lines_of (next + skip)) (drop_nil skip) in
    let all : List Line = lines_from k (blocks_of f) in
    record {
      made = put.made;
      rest = [];
      parts = put.parts ∙ ap (λ (ls : List Line). put.made ++ ls) rest;
      fits =
          fit_all line_length _ _ _
          (subst (FitSoFar line_length (length text₀) (length all) all put.made) rest put.so);
      wrote = put.wrote;
      bytes = put.bytes;
      within = put.within;
      next = starts ∙ ap (count_sum f) last ∙ sym (total_is f ok);
    }

-- the lines from an instruction on, by its place in its block
pub put_from : (bs : List Block) (m n : ℕ) → m ≡ n → {text text' : List ℕ} {total : ℕ} {r :
    Progress}
    → Put text (lines_from m bs) total text' r → Put text (lines_from n bs) total text' r
put_from bs m n e {text} {text'} {total} {r} put =
    subst (λ (k : ℕ). Put text (lines_from k bs) total text' r) e put
