-- `check_blocks` finds the first broken rule of refusals 4 to 6. The loop's invariant: the blocks
-- before block i keep their rules, so the first broken one is among the rest.
use Rattle.file_blocks.proofs.Passes as passes
use Rattle.file_blocks.proofs.refusal.check_blocks.Given as goal

abbrev pub invariant-loop-i : goal.invariant-loop-i
invariant-loop-i l = passes.Blocks l.file l.blocks l.least l.sum l.i
