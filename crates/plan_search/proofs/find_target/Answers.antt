-- `find_target` finds the block that an edge to a key leads to: the one that has the key, if it is
-- of page 8.
use mathlib.Core.Path.{sym, ap, ◌∙◌}
use Rattle.file_keys.specs.Answers.{number_of}
use Rattle.plan_search.proofs.Searching as searching
use Rattle.plan_search.proofs.find_target.Goals as goal

pub returns-in_err-j : goal.returns-in_err-j
returns-in_err-j c =
    rw c.from_residual.ensures (record {
      inside = tt;
      found = searching.target_missing _ c.requires.accepted.0 _
          (sym (ap number_of c.in_err-j.was) ∙ c.block_with.ensures);
    })

pub returns-in_err-block : goal.returns-in_err-block
returns-in_err-block c =
    absurd (searching.never_missing _ c.requires.accepted.0 _ _
    (sym (ap number_of c.in_ok-j.was) ∙ c.block_with.ensures)
    (sym c.block_at.ensures ∙ c.in_err-block.was))

pub returns-then-on_page_8 : goal.returns-then-on_page_8
returns-then-on_page_8 c =
    let accepted = c.requires.accepted.0 in
    let found = sym (ap number_of c.in_ok-j.was) ∙ c.block_with.ensures in record {
      inside = searching.target_inside _ accepted _ _ found;
      found = searching.target_joined _ accepted _ _ found _ _ c.block_at.ensures
          c.in_ok-block.was (sym c.on_page_8.ensures ∙ c.if-on_page_8.true);
    }

pub returns-else-on_page_8 : goal.returns-else-on_page_8
returns-else-on_page_8 c = record {
  inside = tt;
  found = searching.target_apart _ c.requires.accepted.0 _ _
      (sym (ap number_of c.in_ok-j.was) ∙ c.block_with.ensures) _ _
      c.block_at.ensures c.in_ok-block.was
      (sym c.on_page_8.ensures ∙ c.if-on_page_8.false);
}
