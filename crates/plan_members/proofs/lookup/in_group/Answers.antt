-- `in_group` looks at the next member, and then where the key would stand.
-- Assumes nothing.
use Rattle.plan_members.proofs.Among.{keys_sorted, among_here, among_found}
use Rattle.plan_members.proofs.lookup.in_group.Goals as goal

pub returns-then-has_key : goal.returns-then-has_key
returns-then-has_key c = λ limit g is. among_here _ _ (c.has_key.ensures limit g is) c.if-has_key.true

pub returns : goal.returns
returns c = λ limit g is.
    among_found (keys_sorted limit _ g) _ (c.first_from-first.ensures limit g is) _
    (c.has_key-2.ensures limit g is)
