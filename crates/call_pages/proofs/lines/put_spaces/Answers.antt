-- `put_spaces` writes the first of as many blanks as a line has.
-- Assumes nothing.
use borrow.Author.Rules.{rules}
use mathlib.Core.Path.{sym, ap, ◌∙◌}
use mathlib.Core.List.{List, [], ◌++◌}
use Prim.Native.Nat.{ℕ}
use Rattle.base_text.proofs.Laws.{wrote_as}
use Rattle.call_pages.proofs.Blanks.{take_blanks, flat_spaces}
use Rattle.call_pages.proofs.lines.put_spaces.Goals as goal

pub slice_bounds-blanks-end : goal.slice_bounds-blanks-end
slice_bounds-blanks-end c = search rules

pub returns : goal.returns
returns c =
    wrote_as c.put.ensures
    (ap (λ (s : List ℕ). s ++ []) (take_blanks c.args.k 64 32 c.requires)
    ∙ sym (flat_spaces c.args.k []))
