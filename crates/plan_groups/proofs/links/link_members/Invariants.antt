-- `link_members` links the members of each component. The loop's invariant: the blocks from
-- place `left` of the key order on are linked, and only quarters 1 and 3 changed.
use Rattle.plan_groups.proofs.Linking as linking
use Rattle.plan_groups.proofs.links.link_members.Given as goal

abbrev pub invariant-loop-left : goal.invariant-loop-left
invariant-loop-left l = linking.Linking l.initial.work l.n l.left l.work
