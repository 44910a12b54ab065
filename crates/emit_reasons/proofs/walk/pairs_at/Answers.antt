-- `pairs_at` tells a pair from an instruction alone.
-- Assumes nothing.
use mathlib.Core.Path.{sym, ap, ◌∙◌}
use Rattle.std.proofs.Common.{is_some}
use Rattle.emit_reasons.proofs.Reading.{pairs_next}
use Rattle.emit_reasons.proofs.walk.pairs_at.Goals as goal

pub next_of-requires : goal.next_of-requires
next_of-requires c = c.requires.1

pub returns : goal.returns
returns c =
    c.is_some.ensures ∙ ap is_some (c.next_of.ensures c.requires.0.0 c.requires.0.1)
    ∙ sym (pairs_next c.args.x _)
