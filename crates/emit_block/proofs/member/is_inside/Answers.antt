-- `is_inside` asks for a block of the group with the key.
-- Assumes nothing.
use Rattle.emit_block.proofs.Inside.{inside_group, inside_lone}
use Rattle.emit_block.proofs.member.is_inside.Goals as goal

pub returns-then-m : goal.returns-then-m
returns-then-m c = λ ks s. inside_group s _ _ c.if-m.true c.in_group.ensures

pub returns-else-m : goal.returns-else-m
returns-else-m c = λ ks s. inside_lone s _ c.if-m.false
