-- `has_key` compares the key of the record that the reader finds. It finds none only past the last
-- block.
use Rattle.plan_search.proofs.Searching as searching
use Rattle.plan_search.proofs.has_key.Goals as goal

pub returns-in_default : goal.returns-in_default
returns-in_default c =
    searching.key_nowhere _ c.requires _ _ _
    c.block_at.ensures c.in_default.is

pub returns : goal.returns
returns c =
    searching.key_told _ c.requires _ _ _ c.block_at.ensures
    _ _ c.in-Some.is c.key_plus.ensures.key
