-- `first_repeated_alone` sorts only where keys do not rise.
-- Assumes nothing.
use mathlib.Core.Path.{sym, ◌∙◌}
use Rattle.file_keys.proofs.Finding as laws
use Rattle.file_keys.proofs.find.first_repeated_alone.Goals as goal

pub returns-then-rises : goal.returns-then-rises
returns-then-rises c = laws.rising_none _ (sym c.rises.ensures ∙ c.if-rises.true)

pub repeated_on_stack-requires : goal.repeated_on_stack-requires
repeated_on_stack-requires c =
    (c.requires, c.records_of-records.ensures.many)
