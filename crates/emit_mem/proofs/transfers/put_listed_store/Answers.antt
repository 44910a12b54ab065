-- `transfers::put_listed_store` meets its contract: what its calls write, one after another.
-- Assumes nothing.
use Rattle.std.proofs.Common.{sym, refl, ◌∙◌, rules}
use Rattle.base_text.proofs.Laws.{none, wrote_as}
use Rattle.emit_mem.proofs.transfers.put_listed_store.Goals as goal

pub returns-then-is_listed : goal.returns-then-is_listed
returns-then-is_listed c =
    rw (sym c.is_listed.ensures ∙ c.if-is_listed.true) (wrote_as c.put_store.ensures refl)

pub returns : goal.returns
returns c =
    rw (sym c.is_listed.ensures ∙ c.if-is_listed.false) (none (search rules) (search rules))
