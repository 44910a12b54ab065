-- The check of a file answers with the refusal of a rule exactly if the rule applies.
-- Assumes nothing.
use Prim.Native.Nat.{ℕ, ◌*◌}
use mathlib.Core.Path.{◌≡◌, sym, ap, ap₂, ◌∙◌}
use mathlib.Core.List.{List}
use mathlib.Core.Logic.{◌↔◌}
use native.Mathlib.Omega.{arith}
use borrow.Author.Tests.{le-ltb}
use lib.ListN.{length}
use Rattle.call_frame.specs.Answer.{refusal, value}
use Rattle.file_blocks.specs.Parse.{Block, Parsed, parse, instr_total}
use Rattle.file_blocks.specs.declared.rule.Rule.{Rule}
use Rattle.file_blocks.specs.Refusal.{number, place, Applies}
use Rattle.file_blocks.proofs.Exactly.{refused_exactly}
use Rattle.call_frame.specs.Frame.{call_on_blocks, call_frame}
use Rattle.call_check.specs.Calls.{check_call}

-- an accepted file is answered with its counts, since no work number is asked for
accepted_answer : (bs : List Block)
    → check_call (Parsed.accepted bs)
    ≡ value (record { blocks = length bs; instructions = instr_total bs })
unfolding call_frame call_on_blocks
accepted_answer bs = rw (le-ltb 0 (0 * length bs) (omega arith), check_call)

-- so the check refuses nothing but what the file's rules refuse
by_refusal : (p : Parsed) (n i : ℕ) → check_call p ≡ refusal n i → p ≡ Parsed.refused n i
unfolding call_frame call_on_blocks
by_refusal (Parsed.refused m j) n i e =
    let same_number : m ≡ n = cc in
    let same_place : j ≡ i = cc in
    ap₂ Parsed.refused same_number same_place
by_refusal (Parsed.accepted bs) n i e =
    let made = sym (accepted_answer bs) ∙ e in
    absurd (let z : ◌≡◌ {A = ℕ} 0 1 = cc in omega arith)

pub answer_exactly : (f : List ℕ) (r : Rule)
    → (check_call (parse f) ≡ refusal (number r) (place r)) ↔ Applies f r
unfolding call_frame
answer_exactly f r = (
  λ e. (refused_exactly f r).0 (by_refusal (parse f) _ _ e),
  λ a. ap check_call ((refused_exactly f r).1 a),
)
