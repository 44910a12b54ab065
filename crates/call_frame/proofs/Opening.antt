-- A file that is opened: what that tells of it, and what a call on it leaves.
-- Assumes nothing.
use Prim.Native.Nat.{ℕ, ◌*◌, ◌<◌}
use mathlib.Core.Path.{◌≡◌, sym, ap, ◌∙◌}
use mathlib.Core.List.{List, map}
use mathlib.Core.Option.{Option, none, some}
use borrow.Author.Tests.{lt-ltb, le-ltb}
use lib.ListN.{length}
use Rattle.file_records.specs.Trailer.{block_count}
use Rattle.file_blocks.specs.Parse.{Parsed, parse, blocks_of, Accepted}
use Rattle.std.specs.Prelude.{Result, Err, IsErrAnd}
use Rattle.std.proofs.lemmas.Result.{err_from_is_err_and}
use Rattle.file_blocks.proofs.Accepted.{length_of_lem}
use Rattle.call_frame.specs.declared.refusal.Refusal as code
use Rattle.call_frame.specs.Frame.{Refusal, Call, Outcome, refused_with, cleared, settle}
use Rattle.call_frame.specs.Frame.{numbered, call_on_blocks, call_frame}
use Rattle.call_frame.specs.Open.{opening, IsOpen}
use Rattle.call_frame.specs.Refusal.{answer_of, refusal_of}

-- what opening finds in an accepted file: the early refusal, or 8
module _ (f : List ℕ) (ok : Accepted f) (early : Option Refusal) (per_block lent : ℕ) where
  pub opening_early : (r : Refusal) → early ≡ some r
      → opening early per_block lent (parse f) ≡ some r
  unfolding opening
  opening_early r is = rw (ok, is)

  pub opening_8 : (n : ℕ) → n ≡ block_count f → early ≡ none → lent < per_block * n
      → opening early per_block lent (parse f) ≡ some (numbered 8)
  unfolding opening
  opening_8 n all is few =
      let size : length (blocks_of f) ≡ n = length_of_lem f (blocks_of f) ok ∙ sym all in
      rw (ok, is, size, lt-ltb _ _ few)

-- so many blocks are those of the file
pub block_number : (f : List ℕ) (early : Option Refusal) (per_block lent n : ℕ)
    → IsOpen f early per_block lent n → n ≡ length (blocks_of f)
block_number f early per_block lent n o =
    o.blocks ∙ sym (length_of_lem f (blocks_of f) o.accepted)

module _ {A : Type 0} (call : Call A) (work : List ℕ) (results : List (List ℕ)) where
  first_refused : (p : Parsed) (r : Refusal)
      → opening call.early call.per_block (length work) p ≡ some r
      → refused_with r work results ≡ call_frame call p work results
  unfolding opening call_frame call_on_blocks
  first_refused (Parsed.refused n i) r e = let same : record { number = n; place = i } ≡ r = cc in
      ap (λ (s : Refusal). refused_with s work results) (sym same)
  first_refused (Parsed.accepted bs) r e = rw e

  -- what opening refuses the call refuses, with nothing written
  pub refused_call : (f : List ℕ) (r : code.Refusal)
      → opening call.early call.per_block (length work) (parse f) ≡ some (refusal_of r)
      → record { answer = answer_of (Err r); work = work; results = results }
      ≡ call_frame call (parse f) work results
  refused_call f r told = first_refused (parse f) (refusal_of r) told

  -- so it is where a question mark hands it on
  pub refused_on : (f : List ℕ) (r : code.Refusal)
      → opening call.early call.per_block (length work) (parse f) ≡ some (refusal_of r)
      → (q : Result A code.Refusal) → IsErrAnd q (λ (e : code.Refusal). e ≡ r)
      → record { answer = answer_of q; work = work; results = results }
      ≡ call_frame call (parse f) work results
  refused_on f r told q on =
      let p = err_from_is_err_and q on in
      rw (p.1, p.2) (refused_call f r told)

  -- a call on a file that is open leaves what it decides
  pub open_call : (f : List ℕ) (n : ℕ)
      → IsOpen f call.early call.per_block (length work) n
      → settle (call.own (blocks_of f) (map length results)) (cleared (call.per_block * n) work)
      results
      ≡ call_frame call (parse f) work results
  unfolding call_frame call_on_blocks
  open_call f n o =
      let size : length (blocks_of f) ≡ n = sym (block_number f _ _ _ n o) in
      rw (o.accepted, o.nothing, size, le-ltb _ _ o.room)

  -- so what is left is that, once the work numbers are cleared
  pub settled_call : (f : List ℕ) (n : ℕ)
      → IsOpen f call.early call.per_block (length work) n → (work' : List ℕ)
      → work' ≡ cleared (call.per_block * n) work → (left : Outcome A)
      → left ≡ settle (call.own (blocks_of f) (map length results)) work' results
      → left ≡ call_frame call (parse f) work results
  settled_call f n o work' clear left is =
      is
      ∙ ap (λ (w : List ℕ). settle (call.own (blocks_of f) (map length results)) w results) clear
      ∙ open_call f n o
