-- `block_with` finds the block with a key: the one after block i where that has it, since no other
-- does, else the one that the search in the order finds.
use mathlib.Core.Path.{sym, ap, ◌∙◌}
use native.Mathlib.Omega.{arith}
use Rattle.file_blocks.proofs.Accepted.{few_blocks}
use Rattle.file_keys.specs.Answers.{number_of}
use Rattle.file_keys.proofs.Ordered.{is_order}
use Rattle.file_keys.proofs.Reading.{length_keys, right_blocks}
use Rattle.plan_search.proofs.Searching as searching
use Rattle.plan_search.proofs.block_with.Goals as goal

pub overflow_add-next : goal.overflow_add-next
overflow_add-next c = omega (arith, few_blocks _ _ c.requires.accepted.0)

pub find_key-requires : goal.find_key-requires
find_key-requires c =
    let f = c.args.file.now in
    let long = (is_order _ _ c.requires.accepted.1).long in record { right_blocks = (right_blocks f c.requires.accepted.0, c.requires.accepted.1); p_in_bounds = omega (arith, long, length_keys f, c.requires.i_bound) }

pub returns-in_err-j : goal.returns-in_err-j
returns-in_err-j c =
    ap number_of c.from_residual.ensures ∙ sym (ap number_of c.in_err-j.was) ∙ c.find_key.ensures

pub returns : goal.returns
returns c =
    sym (ap number_of c.in_ok-j.was) ∙ c.find_key.ensures

pub returns-then-has_key : goal.returns-then-has_key
returns-then-has_key c =
    searching.with_key _ c.requires.accepted.0 _ _
    (sym c.has_key.ensures ∙ c.if-has_key.true)
