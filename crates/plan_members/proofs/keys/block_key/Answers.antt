-- `block_key` reads the record of a block, if there is one.
-- Assumes nothing.
use mathlib.Core.Path.{sym, ◌∙◌}
use Rattle.plan_members.proofs.RowKeys.{key_found, key_missing}
use Rattle.plan_members.proofs.keys.block_key.Goals as goal

pub returns-in_default : goal.returns-in_default
returns-in_default c = key_missing _ _ (sym c.block_at.ensures ∙ c.in_default.is)

pub returns : goal.returns
returns c =
    key_found _ _ _ _
    (sym c.block_at.ensures
    ∙ c.in-Some.is) c.key_of.ensures
