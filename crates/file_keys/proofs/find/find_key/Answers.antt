-- `find_key` looks at the first place whose key is not below.
-- Assumes nothing.
use mathlib.Core.Path.{sym, ◌∙◌}
use Rattle.file_keys.proofs.Ordered.{is_order}
use Rattle.file_keys.proofs.Finding as laws
use Rattle.file_keys.proofs.find.find_key.Goals as goal

pub returns-then-order-place : goal.returns-then-order-place
returns-then-order-place c =
    laws.search_past _ _ (is_order _ _ c.requires.right_blocks.1) _ _ c.first_place-place.ensures
    c.if-order-place.true

pub returns-then-key_of-key : goal.returns-then-key_of-key
returns-then-key_of-key c =
    laws.search_there _ _ (is_order _ _ c.requires.right_blocks.1) _ _ c.first_place-place.ensures
    c.if-order-place.false (sym c.key_of.ensures ∙ c.if-key_of-key.true)

pub returns-else-key_of-key : goal.returns-else-key_of-key
returns-else-key_of-key c =
    laws.search_other _ _ (is_order _ _ c.requires.right_blocks.1) _ _ c.first_place-place.ensures
    c.if-order-place.false (λ e. c.if-key_of-key.false (c.key_of.ensures ∙ e))
